-- What stands before the rows.
use Rattle.std.specs.Prelude.{ℕ, List, ◌++◌, codes}
use Rattle.tox_draw.specs.Style.{style}
use Rattle.tox_draw.specs.declared.pages.row.Row.{Row}
use Rattle.tox_draw.specs.pages.Escaping.{html}
use Rattle.tox_draw.specs.pages.Totals.{row_totals_text}

-- the page up to its title
unfoldable pub page_start : List ℕ
page_start =
    codes "<!DOCTYPE html>\n<html lang=\"en\">\n<head>\n<meta charset=\"utf-8\"/>\n<meta name=\"viewport\" content=\"width=device-width, initial-scale=1\"/>\n<title>"

-- behind the title, up to the style of its pictures
unfoldable pub page_style : List ℕ
page_style =
    codes "</title>\n<style>\n:root{color-scheme:light dark}\nbody{margin:0;background:#fff;color:#1f2328;font:16px/1.5 system-ui,-apple-system,\"Segoe UI\",Roboto,Helvetica,Arial,sans-serif}\nmain{max-width:1400px;margin:0 auto;padding:16px}\nh1{font-size:24px;line-height:1.25;margin:0 0 16px;overflow-wrap:anywhere}\nh2{font-size:20px;line-height:1.25;margin:32px 0 16px}\nh3{font-size:16px;line-height:1.25;margin:32px 0 8px;overflow-wrap:anywhere}\ndl{display:flex;flex-wrap:wrap;gap:8px;margin:0 0 24px}\ndl div{border:1px solid #d1d9e0;border-radius:6px;padding:4px 12px}\ndt{color:#59636e;font-size:13px}\ndd{margin:0;font-variant-numeric:tabular-nums}\n.wide{overflow-x:auto}\ntable{border-collapse:collapse;font-size:14px}\ncaption{color:#59636e;padding:0 0 8px;text-align:left}\nth,td{border-bottom:1px solid #d1d9e0;padding:4px 10px;text-align:left;vertical-align:top;white-space:nowrap}\ntd.toxics{min-width:120px;overflow-wrap:anywhere;white-space:normal}\n.number{font-variant-numeric:tabular-nums;text-align:right}\n.marked th{border-left:4px solid #cf222e}\n.verdict{color:#cf222e;font-weight:600}\nfigure{margin:24px 0}\nfigcaption{font-weight:600;margin:0 0 8px;overflow-wrap:anywhere}\n.toxi-draw{display:block;height:auto;min-width:640px;width:100%;max-width:960px}\na{color:#0969da}\n@media(prefers-color-scheme:dark){\nbody{background:#0d1117;color:#f0f6fc}\ndl div,th,td{border-color:#3d444d}\ndt,caption{color:#9198a1}\n.marked th{border-left-color:#f85149}\n.verdict{color:#f85149}\na{color:#4493f8}\n}\n</style>\n"

-- the head of the page
unfoldable pub page_head : List ℕ → List ℕ
page_head title = page_start ++ (html title ++ (page_style ++ style))

-- behind the head, up to the totals
unfoldable pub body_start : List ℕ → List ℕ
body_start title =
    codes "</head>\n<body>\n<main>\n<h1>" ++ (html title ++ codes "</h1>\n<dl>\n")

-- behind the totals, up to the rows
unfoldable pub table_head : List ℕ
table_head =
    codes "</dl>\n<div class=\"wide\" role=\"region\" tabindex=\"0\" aria-labelledby=\"links\">\n<table>\n<caption id=\"links\">The links. Bytes that the client and the server sent, and those that passed.</caption>\n<thead>\n<tr><th scope=\"col\">Proxy</th><th class=\"number\" scope=\"col\">Link</th><th scope=\"col\">Ended</th><th class=\"number\" scope=\"col\">Client sent, B</th><th class=\"number\" scope=\"col\">passed</th><th scope=\"col\">Toxics upstream</th><th class=\"number\" scope=\"col\">Server sent, B</th><th class=\"number\" scope=\"col\">passed</th><th scope=\"col\">Toxics downstream</th><th scope=\"col\">Verdict</th><th class=\"number\" scope=\"col\">Late, max, ms</th></tr>\n</thead>\n<tbody>\n"

-- all that stands before the rows of a page with this title: the logs that can't be judged are so many, and the others of so many links
unfoldable pub page_front : List ℕ → ℕ → List Row → ℕ → List ℕ
page_front title refused rows links =
    page_head title ++ (body_start title ++ (row_totals_text refused rows links ++ table_head))
