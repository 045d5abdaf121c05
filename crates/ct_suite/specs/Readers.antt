-- Values that are read byte by byte, up to the limits of their length. This project's own.
use Rattle.std.specs.Prelude.{ℕ, ◌≡◌, ◌≤◌, ⊤, Bool, true, false, not, ◌||◌, ◌==◌, nat_lt, List, [], ◌∷◌, ◌++◌, filter, length, map, Result, IfErr, OnOk, if◌then◌else◌}
use Rattle.std.specs.List.{list_any}
use Rattle.ct_base.specs.Bytes.{backslash, semicolon}
use Rattle.ct_base.specs.Entries.{is_entry, parts_of, with_front}
use Rattle.ct_suite.specs.Values.{bare, is_too_long, size}
use Rattle.ct_suite.specs.declared.fault.ValueFault.{ValueFault}
use Rattle.ct_suite.specs.declared.fault.ValueFault.TheVariants.{TooLong, NoMemory}
use Rattle.ct_suite.specs.declared.limits.ValueLimits.{ValueLimits}
use Rattle.ct_suite.specs.declared.reader.Reader.{Reader}
use Rattle.ct_suite.specs.declared.value.Value.{Value}

-- the values are longer than the limits allow: one of them, or all together
abbrev pub are_too_long : ValueLimits → List Value → Bool
are_too_long limits values =
    list_any (is_too_long limits.value_bytes) values || nat_lt limits.all_value_bytes (size values)

-- TooLong is returned only if `Long` holds; NoMemory is always allowed
abbrev pub StopsIf : Type 0 → ValueFault → Type 0
StopsIf Long TooLong = Long
StopsIf Long NoMemory = ⊤

-- TooLong is returned only if these values are too long; NoMemory is always allowed
abbrev pub StopsFor : ValueLimits → List Value → ValueFault → Type 0
StopsFor limits values why = StopsIf (are_too_long limits values ≡ true) why

-- the reader has counted the bytes of its values;
-- they, and what it has read of its next value, are within the limits
pub record IsReaderWithin (limits : ValueLimits) (reader : Reader) : Type 0 where
  pub counted : reader.bytes ≡ size reader.values
  pub values : are_too_long limits reader.values ≡ false
  pub text : length reader.text.items ≤ limits.value_bytes

-- the reader has read nothing of its next value, and is within the limits
pub record IsAtRest (limits : ValueLimits) (reader : Reader) : Type 0 where
  pub within : IsReaderWithin limits reader
  pub text : reader.text.items ≡ []
  pub held : reader.held ≡ false

-- the backslash behind the text that was read, if one is held back
abbrev pub held_bytes : Bool → List ℕ
held_bytes held = if held then backslash ∷ [] else []

-- the values of the reader once these bytes of an unquoted argument are read too
abbrev pub entries_with : Reader → List ℕ → List Value
entries_with reader rest =
    reader.values
    ++ map bare (filter is_entry (with_front reader.text.items (parts_of (held_bytes reader.held ++ rest))))

-- the reader has read these bytes of an unquoted argument;
-- or it stopped, since the values with them are too long or memory was wanting
pub record TakesEntries
    (limits : ValueLimits) (old new : Reader) (piece : List ℕ) (result : Result (Unit {0}) ValueFault)
    : Type 0 where
  pub within : OnOk result (IsReaderWithin limits new)
  pub taken : OnOk result ((rest : List ℕ) → entries_with new rest ≡ entries_with old (piece ++ rest))
  pub stopped : IfErr result (λ why. (rest : List ℕ) → StopsFor limits (entries_with old (piece ++ rest)) why)

-- the byte belongs to an entry wherever it stands: it is no semicolon and no backslash
abbrev pub is_inner : ℕ → Bool
is_inner byte = not (byte == semicolon || byte == backslash)

-- the bytes begin with a semicolon
abbrev pub is_ended : List ℕ → Bool
is_ended [] = false
is_ended (byte ∷ bytes) = byte == semicolon

-- the reader holds back no backslash any more, which changes nothing if no semicolon comes next;
-- or it stopped, since the values are too long or memory was wanting
pub record Releases (limits : ValueLimits) (old new : Reader) (result : Result (Unit {0}) ValueFault)
    : Type 0 where
  pub within : OnOk result (IsReaderWithin limits new)
  pub held : OnOk result (new.held ≡ false)
  pub taken :
      OnOk result ((rest : List ℕ) → is_ended rest ≡ false → entries_with new rest ≡ entries_with old rest)
  pub stopped : IfErr result
      (λ why. (rest : List ℕ) → is_ended rest ≡ false → StopsFor limits (entries_with old rest) why)
