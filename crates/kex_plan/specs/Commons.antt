-- What plans have in common.
use Rattle.kex_plan.specs.declared.common.Owner.{Owner}
use Rattle.kex_plan.specs.declared.common.Owner.TheVariants.{Counted, Alone}

-- the value, whoever has it
abbrev pub owner_value : {T : Type 0} → Owner T → T
owner_value (Counted one) = one.value
owner_value (Alone value) = value
