-- Two parts of what was read: how many bytes, and which list.
use Rattle.std.specs.Prelude.{ℕ, List, [], Result, Ok, Err}
use Rattle.ct_lex.specs.Stop.{◌>>=◌}
use Rattle.ct_lex.specs.declared.stop.Stop.{Stop}

-- how many bytes were read
abbrev pub bytes_read : {A : Type 0} → Result (A × ℕ) Stop → Result ℕ Stop
bytes_read read = read >>= λ x. Ok x.1

-- the list that was read, or the empty list where there is no reading
abbrev pub list_read : {A : Type 0} → Result (List A × ℕ) Stop → List A
list_read (Ok x) = x.0
list_read (Err stop) = []
