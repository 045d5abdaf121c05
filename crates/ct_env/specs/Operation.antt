-- What each operation does to one variable. Source: CMake manual, cmake-properties(7),
-- ENVIRONMENT_MODIFICATION.
use Rattle.std.specs.Prelude.{ℕ, bytes_eq, List, [], ◌∷◌, ◌++◌, Option, Some, None, codes, if◌then◌else◌}
use Rattle.ct_base.specs.Bytes.{colon, semicolon}
use Rattle.ct_props.specs.Values.{or_empty}
use Rattle.ct_env.specs.declared.operation.Operation.{Operation}
use Rattle.ct_env.specs.declared.operation.Operation.TheVariants.{Reset, Set, Unset, StringAppend, StringPrepend, PathListAppend, PathListPrepend, CmakeListAppend, CmakeListPrepend}

-- the operation of a name, if there is one
abbrev pub operation_named : List ℕ → Option Operation
operation_named word =
    if bytes_eq word (codes "reset") then Some Reset
    else (if bytes_eq word (codes "set") then Some Set
    else (if bytes_eq word (codes "unset") then Some Unset
    else (if bytes_eq word (codes "string_append") then Some StringAppend
    else (if bytes_eq word (codes "string_prepend") then Some StringPrepend
    else (if bytes_eq word (codes "path_list_append") then Some PathListAppend
    else (if bytes_eq word (codes "path_list_prepend") then Some PathListPrepend
    else (if bytes_eq word (codes "cmake_list_append") then Some CmakeListAppend
    else (if bytes_eq word (codes "cmake_list_prepend") then Some CmakeListPrepend
    else None))))))))

-- a list with a value behind its others, and a separator between where there are others
abbrev pub set_behind : ℕ → List ℕ → List ℕ → List ℕ
set_behind separator [] value = value
set_behind separator (byte ∷ bytes) value = (byte ∷ bytes) ++ separator ∷ value

-- a list with a value in front of its others, and a separator between where there are others
abbrev pub set_in_front : ℕ → List ℕ → List ℕ → List ℕ
set_in_front separator [] value = value
set_in_front separator (byte ∷ bytes) value = value ++ separator ∷ byte ∷ bytes

-- the value of a variable after an operation with a value. `base` is its value without any modification,
-- `old` the one before the operation. None is a variable that is not set.
abbrev pub value_after : Operation → List ℕ → Option (List ℕ) → Option (List ℕ) → Option (List ℕ)
value_after Reset value base old = base
value_after Set value base old = Some value
value_after Unset value base old = None
value_after StringAppend value base old = Some (or_empty old ++ value)
value_after StringPrepend value base old = Some (value ++ or_empty old)
value_after PathListAppend value base old = Some (set_behind colon (or_empty old) value)
value_after PathListPrepend value base old = Some (set_in_front colon (or_empty old) value)
value_after CmakeListAppend value base old = Some (set_behind semicolon (or_empty old) value)
value_after CmakeListPrepend value base old = Some (set_in_front semicolon (or_empty old) value)
