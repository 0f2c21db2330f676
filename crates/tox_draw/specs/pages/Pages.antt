-- The page of some logs, and how it is written.
use Rattle.std.specs.Prelude.{◌≡◌, ℕ, ◌+◌, Bool, true, false, List, ◌++◌, codes, flat_map, length, take, ltb, Option, Result, Ok, Err}
use Rattle.std.specs.List.{enumerate_from}
use Rattle.std.specs.Io.KnownBytes.{append_known}
use Rattle.tox_time.specs.declared.ends.Sink.{Ghosts}
use Rattle.tox_text.specs.Printing.{PrintsUnless}
use Rattle.tox_text.specs.Writing.{AppendsFront}
use Rattle.tox_text.specs.declared.printer.SizedPrinter.{SizedPrinter}
use Rattle.tox_draw.specs.declared.pages.fault.PageFault.{PageFault}
use Rattle.tox_draw.specs.declared.pages.fault.PageFault.TheVariants.{OutOfMemory, WriteFault}
use Rattle.tox_draw.specs.declared.pages.link_logs.LinkLogs.{LinkLogs}
use Rattle.tox_draw.specs.declared.pages.row.Refusal.{Refusal}
use Rattle.tox_draw.specs.declared.pages.row.Row.{Row}
use Rattle.tox_draw.specs.pages.Conversations.{AreSections}
use Rattle.tox_draw.specs.pages.Fronts.{page_front}
use Rattle.tox_draw.specs.pages.LinkLogs.{page_links}
use Rattle.tox_draw.specs.pages.Links.{link_count}
use Rattle.tox_draw.specs.pages.Logs.{KnownLog}
use Rattle.tox_draw.specs.pages.Rows.{link_row, refusal_row}

-- the row of a link at a place. It leads to its conversation if it is one of the first, so many of them
abbrev pub placed_row : ℕ → ℕ × LinkLogs → List ℕ
placed_row shown placed = link_row placed.1 (placed.0 + 1) (ltb placed.0 shown)

-- the rows of the logs that can't be judged
abbrev pub refusal_rows : List Refusal → List ℕ
refusal_rows refusals = flat_map refusal_row refusals

-- the rows of the links
abbrev pub link_rows : List LinkLogs → ℕ → List ℕ
link_rows links shown = flat_map (placed_row shown) (enumerate_from 0 links)

-- behind the rows
unfoldable pub table_end : List ℕ
table_end = codes "</tbody>\n</table>\n</div>\n<h2>Conversations</h2>\n"

-- behind the conversations
unfoldable pub page_end : List ℕ
page_end = codes "</main>\n</body>\n</html>\n"

-- the list of the logs that can't be judged and of the links
unfoldable pub page_list : List Refusal → List LinkLogs → ℕ → List ℕ
page_list refusals links shown =
    refusal_rows refusals ++ (link_rows links shown ++ table_end)

-- the list and the conversations of the first links, so many of them, up to the end of the page
pub record IsPageBody (known : List ℕ → KnownLog) (refusals : List Refusal) (links : List LinkLogs)
    (shown : ℕ) (text : List ℕ) : Type 0 where
  pub sections : List ℕ
  pub drawn : AreSections known 1 (take shown links) sections
  pub whole : text ≡ page_list refusals links shown ++ (sections ++ page_end)

-- the page of these logs under a title, with the conversations of the first links, so many of them
pub record IsPage (known : List ℕ → KnownLog) (title : List ℕ) (refusals : List Refusal)
    (rows : List Row) (shown : ℕ) (text : List ℕ) : Type 0 where
  pub body : List ℕ
  pub below : IsPageBody known refusals (page_links rows) shown body
  pub whole : text ≡ page_front title (length refusals) rows (link_count rows) ++ body

-- whether a fault is that of the writer
abbrev pub is_writers : PageFault → Bool
is_writers OutOfMemory = false
is_writers WriteFault = true

module _ {W : Type 0} (sink : Ghosts W) where
  -- a part was printed, or the writer has failed where the fault is the writer's
  abbrev pub Shows : {R : ℕ} → Result (Unit {0}) PageFault → SizedPrinter W R → SizedPrinter W R
      → List ℕ → Type 0
  Shows result old new text = PrintsUnless sink is_writers result old new text

  -- a part of this kind was printed
  pub record ShowsSome {R : ℕ} (IsPart : List ℕ → Type 0) (result : Result (Unit {0}) PageFault)
      (old new : SizedPrinter W R) : Type 0 where
    pub text : List ℕ
    pub is : IsPart text
    pub shows : Shows result old new text

-- all bytes of a page were written, or a prefix of them, and only a writer that failed is to blame for its fault
abbrev pub LeavesPage : Result (Unit {0}) PageFault → Option (List ℕ) → Option (List ℕ) → Bool
    → List ℕ → Type 0
LeavesPage (Ok done) old new failed text = (new ≡ append_known old text) × (failed ≡ false)
LeavesPage (Err fault) old new failed text =
    AppendsFront old new text × (failed ≡ is_writers fault)

-- the page of these logs was written
pub record WritesPage (known : List ℕ → KnownLog) (title : List ℕ)
    (result : Result (Unit {0}) PageFault) (refusals : List Refusal) (rows : List Row) (shown : ℕ)
    (old new : Option (List ℕ)) (failed : Bool) : Type 0 where
  pub text : List ℕ
  pub page : IsPage known title refusals rows shown text
  pub left : LeavesPage result old new failed text
