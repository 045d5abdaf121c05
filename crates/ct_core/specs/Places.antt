-- The room that a history needs beside its entries. This project's own.
use Rattle.std.specs.Prelude.{ℕ, List, if◌then◌else◌}
use Rattle.ct_history.specs.declared.history.Entry.{Entry}
use Rattle.ct_history.specs.History.{has_stop}

-- how many places a Stop may still take: 0 if there is a Stop, else 1
abbrev pub stop_places : List Entry → ℕ
stop_places entries = if has_stop entries then 0 else 1
