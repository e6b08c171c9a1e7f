use Rattle.kex_model.proofs.Examples.{registers_swap, register_doubles, mute_keeps_registers, register_is_whole_or_as_it_was}
use Rattle.kex_model.proofs.worked.registers_are_kept.Goals as goal

pub returns-clause-swap : goal.returns-clause-swap
returns-clause-swap c = registers_swap

pub returns-clause-grow : goal.returns-clause-grow
returns-clause-grow c = register_doubles

pub returns-clause-mute : goal.returns-clause-mute
returns-clause-mute c = mute_keeps_registers

pub returns-clause-begun : goal.returns-clause-begun
returns-clause-begun c = register_is_whole_or_as_it_was
