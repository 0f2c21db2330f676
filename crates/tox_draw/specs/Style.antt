-- The style of a picture.
use Rattle.std.specs.Prelude.{ℕ, List, codes}

-- the lines of the style
unfoldable pub style : List ℕ
style =
    codes "<style>\n.toxi-draw{font:12px system-ui,-apple-system,\"Segoe UI\",Roboto,Helvetica,Arial,sans-serif}\n.toxi-draw .paper{fill:#fff}\n.toxi-draw text{fill:#59636e}\n.toxi-draw .chain{fill:#1f2328;font:13px ui-monospace,SFMono-Regular,Menlo,Consolas,\"DejaVu Sans Mono\",monospace}\n.toxi-draw .halo{stroke:#fff;stroke-width:4px;stroke-linejoin:round;paint-order:stroke}\n.toxi-draw .end{text-anchor:end}\n.toxi-draw .mid{text-anchor:middle}\n.toxi-draw path{fill:none;stroke-width:1px;shape-rendering:crispEdges}\n.toxi-draw path.grid{stroke:#eaecef}\n.toxi-draw path.axis{stroke:#8c959f}\n.toxi-draw path.held{fill:#6e7781;fill-opacity:.13;fill-rule:evenodd}\n.toxi-draw path.late{fill:#d55e00;fill-opacity:.35;fill-rule:evenodd}\n.toxi-draw path.arrived{stroke:#424a53}\n.toxi-draw path.left{stroke:#0072b2;stroke-width:3px}\n.toxi-draw path.due{stroke:#0072b2;stroke-width:2px}\n.toxi-draw path.written{stroke:#d55e00;stroke-width:2px}\n.toxi-draw path.mark{stroke:#1f2328;stroke-width:2px;shape-rendering:auto}\n.toxi-draw circle{fill:#1f2328}\n.toxi-draw circle.arrived{fill:#fff;stroke:#424a53}\n.toxi-draw text.left,.toxi-draw text.due{fill:#0072b2}\n.toxi-draw text.written{fill:#b34f00}\n.toxi-draw text.mark{fill:#1f2328}\n@media(prefers-color-scheme:dark){\n.toxi-draw .paper{fill:#0d1117}\n.toxi-draw text{fill:#9198a1}\n.toxi-draw .chain{fill:#f0f6fc}\n.toxi-draw .halo{stroke:#0d1117}\n.toxi-draw path.grid{stroke:#21262d}\n.toxi-draw path.axis{stroke:#656c76}\n.toxi-draw path.held{fill:#9198a1;fill-opacity:.18}\n.toxi-draw path.late{fill:#e69f00;fill-opacity:.45}\n.toxi-draw path.arrived{stroke:#b1bac4}\n.toxi-draw path.left,.toxi-draw path.due{stroke:#56b4e9}\n.toxi-draw path.written{stroke:#e69f00}\n.toxi-draw path.mark{stroke:#f0f6fc}\n.toxi-draw circle{fill:#f0f6fc}\n.toxi-draw circle.arrived{fill:#0d1117;stroke:#b1bac4}\n.toxi-draw text.left,.toxi-draw text.due{fill:#56b4e9}\n.toxi-draw text.written{fill:#e69f00}\n.toxi-draw text.mark{fill:#f0f6fc}\n}\n</style>\n"
