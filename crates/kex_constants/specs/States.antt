-- What is known of each state.
use Rattle.std.specs.Prelude.{[], Option, Some, None}
use Rattle.kex_constants.specs.Known.{Constants}
use Rattle.std.specs.declared.rc.Rc.{Rc}
use Rattle.std.specs.declared.alloc.Global.{Global}

-- the constants of a state, of which nothing may be known
abbrev pub constants_of : Option (Rc Constants Global) → Constants
constants_of None = []
constants_of (Some k) = k.value
