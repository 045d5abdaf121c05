-- The resources that are lent. This project's own.
use Rattle.std.specs.Prelude.{List, Option, option_map}
use Rattle.ct_base.specs.declared.defs.Resource.{Resource}
use Rattle.ct_alloc.specs.Free.{FreeValue}

-- the resources that are lent, if any are, by the value of what is free of them
abbrev pub lent : Option FreeValue → Option (List Resource)
lent free = option_map (λ (f : FreeValue). f.resources) free
