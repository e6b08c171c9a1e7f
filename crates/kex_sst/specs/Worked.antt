-- The table of the program `main := /a*/`, by hand.
use Rattle.std.specs.Prelude.{List, [], ◌∷◌, ◌++◌, Some, None, replicate}
use Rattle.kex_code.specs.declared.symbol.Symbol.{Symbol}
use Rattle.kex_code.specs.declared.symbol.Symbol.TheVariants.{L, R}
use Rattle.kex_sst.specs.declared.parts.Part.TheVariants.{Put, Old, Input}
use Rattle.kex_sst.specs.Tables.{Transducer}

-- one side of the choice goes on, the other ends
abbrev pub sides : List (List Symbol)
sides = (L ∷ []) ∷ (R ∷ []) ∷ []

-- a state with a register for each side; on the byte `a` the first is passed on, with the byte
abbrev pub many_a : Transducer
many_a = record {
  classes = replicate 97 0 ++ 1 ∷ replicate 158 0;
  initial = record { out = []; regs = (Put L ∷ []) ∷ (Put R ∷ []) ∷ [] };
  states = record {
    registers = 2;
    accepting = Some (Old 1 ∷ []);
    go = None ∷ Some (record {
      target = 0;
      update = record {
        out = Old 0 ∷ Input ∷ [];
        regs = (Put L ∷ []) ∷ (Put R ∷ []) ∷ [];
      };
    }) ∷ [];
  } ∷ [];
}
