-- Where a lexer stands in a text, and what comes next there.
use Rattle.std.specs.Prelude.{ℕ, ◌+◌, ◌-◌, Bool, true, false, List, [], ◌∷◌, length, take, drop, if◌then◌else◌, ◌==◌, Option, Some, None, Result, Ok, Err}
use Rattle.std.specs.List.{starts_with}
use Rattle.ct_lex.specs.Bytes.{feeds}
use Rattle.ct_lex.specs.Command.{CommandRead, command, start_from}
use Rattle.ct_lex.specs.declared.call.Call.{Call}
use Rattle.ct_lex.specs.declared.stop.Cause.{Cause}
use Rattle.ct_lex.specs.declared.stop.Cause.TheVariants.{OpenString, OpenBracket, OpenCall, BadEscape, BadChar, BadReference}
use Rattle.ct_lex.specs.declared.stop.Stop.{Stop}
use Rattle.ct_lex.specs.declared.stop.Stop.TheVariants.{Ended, At}
use Rattle.ct_lex.specs.declared.fault.LexFault.{LexFault}
use Rattle.ct_lex.specs.declared.fault.LexFault.TheVariants as fault

-- a place in a text: what is left of the text, the line of its first byte,
-- and whether the place is behind a command on that command's line
pub record Place : Type 0 where
  pub rest : List ℕ
  pub line : ℕ
  pub behind : Bool

-- the byte order mark of UTF-8
abbrev pub byte_order_mark : List ℕ
byte_order_mark = 0xEF ∷ 0xBB ∷ 0xBF ∷ []

-- a text without the byte order mark of UTF-8 that it may begin with
abbrev pub unmarked : List ℕ → List ℕ
unmarked text = if starts_with ◌==◌ text byte_order_mark then drop 3 text else text

-- the place at the front of a text
abbrev pub beginning : List ℕ → Place
beginning text = record { rest = unmarked text; line = 1; behind = false }

-- the line of the place behind the next n bytes
abbrev pub line_behind : Place → ℕ → ℕ
line_behind place n = place.line + feeds (take n place.rest)

-- the fault of a cause on a line
abbrev pub fault_of : Cause → ℕ → LexFault
fault_of OpenString line = fault.OpenString line
fault_of OpenBracket line = fault.OpenBracket line
fault_of OpenCall line = fault.OpenCall line
fault_of BadEscape line = fault.BadEscape line
fault_of BadChar line = fault.BadChar line
fault_of BadReference line = fault.BadReference line

-- the fault of a refusal, with its line;
-- if the text ends inside a command, the line is that of the command, which begins behind n bytes
abbrev pub fault_at : Place → ℕ → Stop → LexFault
fault_at place n Ended = fault_of OpenCall (line_behind place n)
fault_at place n (At cause left) = fault_of cause (line_behind place (length place.rest - left))

-- the place behind a command that ends after n bytes
abbrev pub behind_command : Place → ℕ → Place
behind_command place n = record { rest = drop n place.rest; line = line_behind place n; behind = true }

-- the command that begins behind n bytes, and the place behind it, or the fault
abbrev pub call_at : Place → ℕ → Result CommandRead Stop → Result (Option (Call × Place)) LexFault
call_at place n (Err stop) = Err (fault_at place n stop)
call_at place n (Ok read) =
    Ok
    (Some (
      record { name = read.0; args = read.1; line = line_behind place n },
      behind_command place
          (n + read.2),
    ))

-- what comes next from a place on, given where the next command begins
abbrev pub next_by : Place → Result (Option ℕ) Stop → Result (Option (Call × Place)) LexFault
next_by place (Err stop) = Err (fault_at place 0 stop)
next_by place (Ok None) = Ok None
next_by place (Ok (Some n)) = call_at place n (command (drop n place.rest))

-- the next command and the place behind it, None at the end of the text, or the fault
abbrev pub next_of : Place → Result (Option (Call × Place)) LexFault
next_of place = next_by place (start_from place.behind 0 place.rest)
