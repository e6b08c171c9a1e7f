-- Lists that copies share.
use Rattle.std.specs.Prelude.{List}
use Rattle.kex_code.specs.declared.shared.Shared.{Shared}
use Rattle.kex_code.specs.declared.shared.Shared.TheVariants.{Counted, Alone}

-- the items, whoever owns them
abbrev pub shared_items : {T : Type 0} → Shared T → List T
shared_items (Counted owner) = owner.value.items
shared_items (Alone all) = all.items
