-- Deeds, one after another.
use Rattle.std.proofs.Common.{◌≡◌, ℕ, ◌<◌, ◌+◌, List, [], ◌∷◌, ◌++◌, length, take, get_or, refl, ap, ◌∙◌}
use Rattle.std.proofs.lemmas.List.{take_more}
use Rattle.kex_model.specs.Moves.{Move, accept, read, choose, forced, go, open_buffer, drop_buffer, into, write}
use Rattle.kex_model.specs.Acting.{ActingState}
use Rattle.kex_machine.specs.declared.MNode.{MNode}
use Rattle.kex_machine.specs.Nodes.{node_moves}
use Rattle.kex_action.specs.Actions.{after_move}
use Rattle.kex_action.specs.Deeds.{after_deed, after_deeds}
use Rattle.kex_action.specs.declared.deed.Deed.{Deed}
use Rattle.kex_action.specs.declared.deed.Deed.TheVariants.{Byte, Put, Open, Drop, Into, Write, Node}
use Rattle.kex_action.proofs.NodeSteps.{length-done_by, after_append-registers}

pub deeds-append : (nodes : List MNode) (b : ℕ) (xs ys : List Deed) (s : ActingState) → after_deeds nodes b (xs ++ ys) s ≡ after_deeds nodes b ys (after_deeds nodes b xs s)
deeds-append nodes b [] ys s = refl
deeds-append nodes b (x ∷ xs) ys s = deeds-append nodes b xs ys (after_deed nodes b x s)

-- one deed more
pub deeds-more : (nodes : List MNode) (b : ℕ) (xs : List Deed) (i : ℕ) (d : Deed) (s : ActingState) → i < length xs → after_deeds nodes b (take (i + 1) xs) s ≡ after_deed nodes b (get_or xs i d) (after_deeds nodes b (take i xs) s)
deeds-more nodes b xs i d s h = ap (λ l. after_deeds nodes b l s) (take_more xs i d h) ∙ deeds-append nodes b (take i xs) (get_or xs i d ∷ []) s

length-passing : (m : Move ℕ) (s : ActingState) → length (after_move m s).registers ≡ length s.registers
length-passing accept s = refl
length-passing (read set t) s = refl
length-passing (choose l r) s = refl
length-passing (forced x t) s = refl
length-passing (go e t) s = length-done_by e s

-- no deed makes or takes away a register
pub length-deed : (nodes : List MNode) (b : ℕ) (d : Deed) (s : ActingState) → length (after_deed nodes b d s).registers ≡ length s.registers
length-deed nodes b Byte s = ap length (after_append-registers (b ∷ []) s.out s.buffers s.registers)
length-deed nodes b (Put x) s = ap length (after_append-registers (x ∷ []) s.out s.buffers s.registers)
length-deed nodes b Open s = length-done_by open_buffer s
length-deed nodes b Drop s = length-done_by drop_buffer s
length-deed nodes b (Into r) s = length-done_by (into r) s
length-deed nodes b (Write r) s = length-done_by (write r) s
length-deed nodes b (Node n) s = length-passing (node_moves nodes n) s

pub length-deeds : (nodes : List MNode) (b : ℕ) (xs : List Deed) (s : ActingState) → length (after_deeds nodes b xs s).registers ≡ length s.registers
length-deeds nodes b [] s = refl
length-deeds nodes b (x ∷ xs) s = length-deeds nodes b xs (after_deed nodes b x s) ∙ length-deed nodes b x s
