-- The rows of a determined table, one after the other.
use Rattle.std.proofs.Common.{◌≡◌, ℕ, zero, suc, ◌+◌, ◌<◌, ◌≤◌, List, [], ◌∷◌, ◌++◌, Some, length, drop, take, refl, sym, ap, subst, ◌∙◌, append-nil, arith}
use Rattle.std.specs.Prelude.{slice_get}
use Rattle.std.proofs.lemmas.List.{drop_all}
use Rattle.std.proofs.lemmas.Option.{slice_get_within}
use Rattle.kex_model.specs.Labelled.{Shape}
use Rattle.kex_model.proofs.Tables.{some_same}
use Rattle.kex_machine.specs.Nodes.{Graph}
use Rattle.kex_sst.specs.Parts.{Change}
use Rattle.kex_sst.specs.Tables.{Row, Transducer}
use Rattle.kex_determine.specs.Determined.{IsDetermined, targets_of, MeetsInOrder}
use Rattle.kex_tabfile.specs.Lines.{init_line}
use Rattle.kex_tabfile.specs.Writing.{init_behind, states_text, EachGoesOn}
use Rattle.kex_tabfile.proofs.MetStates.{IsAtRow, at_first, met_before, row_through}
use Rattle.kex_tabfile.proofs.WrittenStates.{row_leads}
use Rattle.kex_tabfile.proofs.StateSteps.{row_at, row_passed}

take_long : {A : Type 0} (xs : List A) (i : ℕ) → i < length xs → length (take i xs) ≡ i
take_long [] i lt = absurd (omega arith)
take_long (x ∷ xs) zero lt = refl
take_long (x ∷ xs) (suc i) lt = let h = take_long xs i (omega arith) in omega (arith, h)

module _ (g : Graph) (t : Transducer) (d : IsDetermined g t) where
  pub at_begin : (n : ℕ) → n ≡ 1 → IsAtRow g t d (take 0 t.states) (drop 0 t.states) n
  at_begin n e = subst (λ z. IsAtRow g t d [] t.states z) (sym e) (at_first g t d)

  -- the state whose row is next was met
  pub row_met : (i n : ℕ) (row : Row) → slice_get t.states i ≡ Some row → IsAtRow g t d (take i t.states) (drop i t.states) n → i < n
  row_met i n row e at =
      let h = met_before g t d (take i t.states) (drop (suc i) t.states) row n (row_at g t d i n row e at) in
      omega (arith, h, take_long t.states i (slice_get_within t.states i row e))

  -- what is to be shown of a row: how it goes on, and how many are met with it
  pub record IsNextRow (i n : ℕ) (row : Row) (s : Shape ℕ) : Type 0 where
    pub leads : EachGoesOn g d.shapes s row.go
    pub met : ℕ
    pub order : MeetsInOrder n (targets_of row.go) met
    pub passed : IsAtRow g t d (take (i + 1) t.states) (drop (i + 1) t.states) met

  pub next_row : (i n : ℕ) (row : Row) (s : Shape ℕ) → slice_get t.states i ≡ Some row → slice_get d.shapes i ≡ Some s → IsAtRow g t d (take i t.states) (drop i t.states) n → IsNextRow i n row s
  next_row i n row s e f at =
      let r = d.rows.rows i s f in
      let same = some_same r.0 row (sym r.1 ∙ e) in
      let x = row_through g t d (take i t.states) (drop (suc i) t.states) row n (row_at g t d i n row e at) in
      record {
        leads = subst (λ z. EachGoesOn g d.shapes s z.go) same (row_leads g t d s r.0 r.2);
        met = x.0;
        order = x.1;
        passed = row_passed g t d i x.0 row e x.2;
      }

-- after the line of the first state comes that of the update
pub init_first : (u : Change) (i : ℕ) (line : List ℕ) → i ≡ 0 → line ++ init_line u ≡ line ++ init_behind u i
init_first u i line e = ap (λ z. line ++ init_behind u z) (sym e)

pub init_later : (u : Change) (i : ℕ) (line : List ℕ) → (i ≡ 0 → ⊥) → line ≡ line ++ init_behind u i
init_later u zero line other = absurd (other refl)
init_later u (suc i) line other = sym (append-nil line)

-- all is written after the last state
pub states_end : (numbers : List ℕ) (u : Change) (shapes : List (Shape ℕ)) (rows : List Row) (i : ℕ) (line : List ℕ) → length rows ≤ i → length rows ≡ length shapes → line ++ states_text numbers u i (drop i shapes) (drop i rows) ≡ line
states_end numbers u shapes rows i line le same =
    ap (λ z. line ++ states_text numbers u i z (drop i rows)) (drop_all i shapes (omega (arith, le, same))) ∙ append-nil line
