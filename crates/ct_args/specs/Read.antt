-- What a call returned is what the definition says, unless memory was wanting.
use Rattle.std.specs.Prelude.{◌≡◌, ℕ, ⊤, Option, Some, Result, Ok, Err}
use Rattle.ct_args.specs.declared.usage.UsageKind.{UsageKind}
use Rattle.ct_args.specs.declared.usage.UsageFault.{UsageFault}
use Rattle.ct_args.specs.declared.usage.UsageFault.TheVariants.{At, NoMemory as NoMemoryThere}
use Rattle.ct_args.specs.declared.usage.ValueFault.{ValueFault}
use Rattle.ct_args.specs.declared.usage.ValueFault.TheVariants.{Bad, NoMemory}

-- the value is refused for this kind; want of memory is free
abbrev pub IsRefusedFor : {Y : Type 0} → Result Y UsageKind → ValueFault → Type 0
IsRefusedFor says NoMemory = ⊤
IsRefusedFor says (Bad kind) = says ≡ Err kind

-- the value, seen by the view, is what its option's rule says
abbrev pub IsValue : {X Y : Type 0} → (X → Y) → Result Y UsageKind → Result X ValueFault → Type 0
IsValue view says (Ok x) = says ≡ Ok (view x)
IsValue view says (Err fault) = IsRefusedFor says fault

-- the fault of the word with this number, for the fault of the value that it holds
abbrev pub usage_fault_at : ℕ → ValueFault → UsageFault
usage_fault_at word (Bad kind) = At word kind
usage_fault_at word NoMemory = NoMemoryThere

-- the value is refused for this kind; want of memory is free
abbrev pub IsRefusedAs : Option UsageKind → ValueFault → Type 0
IsRefusedAs why NoMemory = ⊤
IsRefusedAs why (Bad kind) = why ≡ Some kind

-- the fault is the first one; want of memory is free
abbrev pub IsFirstFault : {Y : Type 0} → Result Y UsageFault → UsageFault → Type 0
IsFirstFault says NoMemoryThere = ⊤
IsFirstFault says (At word kind) = says ≡ Err (At word kind)

-- what was read is, seen by the view, what the words say
abbrev pub IsRead : {X Y : Type 0} → (X → Y) → Result Y UsageFault → Result X UsageFault → Type 0
IsRead view says (Ok x) = says ≡ Ok (view x)
IsRead view says (Err fault) = IsFirstFault says fault
