-- A tree of one of two alike programs is one of the other, with the same code, and it means the same.
use Rattle.std.proofs.Common.{◌≡◌, ◌≢◌, ℕ, zero, suc, ◌<◌, List, [], ◌∷◌, ◌++◌, ⊎_elim, Option, Some, None, length, replicate, refl, sym, ap, ap₂, ◌∙◌, subst, arith, append-nil, length-set}
use Rattle.std.specs.Prelude.{IsTrue}
use Rattle.std.proofs.lemmas.Bool.{cases_eq}
use Rattle.std.proofs.lemmas.List.{get_or-set_same, get_or-set_other, length-replicate}
use Rattle.std.proofs.lemmas.Option.{slice_get_within}
use Rattle.kex_code.specs.declared.symbol.Symbol.{Symbol}
use Rattle.kex_code.specs.declared.symbol.Symbol.TheVariants.{L, R, Byte}
use Rattle.kex_code.specs.declared.piece.Piece.{Piece}
use Rattle.kex_code.specs.Registers.{Registers, content_of, with_content, pieces_text}
use Rattle.kex_model.specs.Programs.{Grammar}
use Rattle.kex_model.specs.declared.program.Kind.{Kind}
use Rattle.kex_model.specs.Trees.{kind_at, root_of, Tree, IsTree, one, lit, one_byte, call, seq, alt_left, alt_right, needed, again, end, mute, at_register, write_register, set_register, add_register, code, meaning, turn_mark, end_mark, PartMeaning, part_behind, go_on, then_part, put_whole, kept_part, part_meaning}
use Rattle.kex_model.specs.Answers.{empty}
use Rattle.kex_model.proofs.PartialMeanings.{part_whole}
use Rattle.kex_rules.specs.Rules.{IsDefined, IsUse}
use Rattle.kex_compile.proofs.NodePairs as kinds
use Rattle.kex_compile.proofs.NodePairs.{SameKind, SameParts}
use Rattle.kex_compile.proofs.Alike.{Alike, one_name, name_back}
use Rattle.kex_compile.proofs.SameRules.{G}
use Rattle.kex_compile.proofs.PlacePairs.{Partners, Defined, partners_on, root_on}

none_held : (n r : ℕ) → content_of (replicate n []) r ≡ []
none_held zero r = refl
none_held (suc n) zero = refl
none_held (suc n) (suc r) = none_held n r

-- ---- registers

module _ (P Q : Grammar) (a : Alike P Q) where
  -- registers of the same names hold the same
  pub record SameRegisters (regs regs' : Registers) : Type 0 where
    pub long : length regs ≡ length a.registers
    pub long' : length regs' ≡ length a.registers'
    pub same : (r r' : ℕ) → G P Q a r r' → content_of regs r ≡ content_of regs' r'

  pub same_empty : SameRegisters (empty P) (empty Q)
  same_empty = record {
    long = length-replicate P.registers [] ∙ a.counted;
    long' = length-replicate Q.registers [] ∙ a.counted';
    same = λ r r' g. none_held P.registers r ∙ sym (none_held Q.registers r');
  }

  put_on : (regs regs' : Registers) (r r' : ℕ) (s s' : List ℕ) → SameRegisters regs regs' → G P Q a r r' → s ≡ s' → SameRegisters (with_content regs r s) (with_content regs' r' s')
  put_on regs regs' r r' s s' h g e = record {
    long = length-set regs r s ∙ h.long;
    long' = length-set regs' r' s' ∙ h.long';
    same = λ k k' j. ⊎_elim (λ q. here k k' j q) (λ n. there k k' j n) (cases_eq k r);
  }
    where
      within : r < length regs
      within = let lt : r < length a.registers = slice_get_within a.registers r g.0 g.1 in omega (arith, lt, h.long)

      within' : r' < length regs'
      within' = let lt : r' < length a.registers' = slice_get_within a.registers' r' g.0 g.2 in omega (arith, lt, h.long')

      here : (k k' : ℕ) → G P Q a k k' → k ≡ r → content_of (with_content regs r s) k ≡ content_of (with_content regs' r' s') k'
      here k k' j q =
          let q' : k' ≡ r' = one_name a.registers a.registers' a.one_register' r k' r' (subst (λ z. G P Q a z k') q j) g in
          ap (content_of (with_content regs r s)) q ∙ get_or-set_same regs r s [] within ∙ e ∙ sym (get_or-set_same regs' r' s' [] within') ∙ sym (ap (content_of (with_content regs' r' s')) q')

      there : (k k' : ℕ) → G P Q a k k' → k ≢ r → content_of (with_content regs r s) k ≡ content_of (with_content regs' r' s') k'
      there k k' j n =
          let n' : k' ≢ r' = λ q. n (one_name a.registers' a.registers a.one_register r' k r (name_back a.registers a.registers' k r' (subst (λ z. G P Q a k z) q j)) (name_back a.registers a.registers' r r' g)) in
          get_or-set_other regs r k s [] n ∙ h.same k k' j ∙ sym (get_or-set_other regs' r' k' s' [] n')

  joined_on : {ps qs : List Piece} (regs regs' : Registers) → SameRegisters regs regs' → SameParts (G P Q a) ps qs → pieces_text ps regs ≡ pieces_text qs regs'
  joined_on regs regs' h kinds.no_more = refl
  joined_on regs regs' h (kinds.text {s = s} p) = ap (λ z. s ++ z) (joined_on regs regs' h p)
  joined_on regs regs' h (kinds.register {r = r} {r' = r'} g p) = ap₂ (λ x y. x ++ y) (h.same r r' g) (joined_on regs regs' h p)

  -- ---- parts

  -- parts that write the same, with the same of the code left
  pub record SamePart (p p' : PartMeaning) : Type 0 where
    pub bytes : p.bytes ≡ p'.bytes
    pub registers : SameRegisters p.registers p'.registers
    pub rest : p.rest ≡ p'.rest

  behind_on : (mark c : List Symbol) (regs regs' : Registers) (next next' : List Symbol → PartMeaning) → SameRegisters regs regs' → ((d : List Symbol) → SamePart (next d) (next' d)) → SamePart (part_behind mark c regs next) (part_behind mark c regs' next')
  behind_on [] c regs regs' next next' h f = f c
  behind_on (x ∷ mark) [] regs regs' next next' h f = record { bytes = refl; registers = h; rest = refl }
  behind_on (x ∷ mark) (y ∷ c) regs regs' next next' h f = f c

  -- what goes on alike on alike registers
  abbrev GoesOn : (List Symbol → Registers → PartMeaning) → (List Symbol → Registers → PartMeaning) → Type 0
  GoesOn next next' = (c : List Symbol) (regs regs' : Registers) → SameRegisters regs regs' → SamePart (next c regs) (next' c regs')

  going_on : (bytes bytes' : List ℕ) (regs regs' : Registers) (rest : Option (List Symbol)) (next next' : List Symbol → Registers → PartMeaning) → bytes ≡ bytes' → SameRegisters regs regs' → GoesOn next next' → SamePart (go_on bytes regs rest next) (go_on bytes' regs' rest next')
  going_on bytes bytes' regs regs' None next next' e h f = record { bytes = e; registers = h; rest = refl }
  going_on bytes bytes' regs regs' (Some c) next next' e h f =
      let x = f c regs regs' h in
      record { bytes = ap₂ (λ y z. y ++ z) e x.bytes; registers = x.registers; rest = x.rest }

  then_on : (p p' : PartMeaning) (next next' : List Symbol → Registers → PartMeaning) → SamePart p p' → GoesOn next next' → SamePart (then_part p next) (then_part p' next')
  then_on p p' next next' s f = subst (λ z. SamePart (go_on p.bytes p.registers p.rest next) (go_on p'.bytes p'.registers z next')) s.rest (going_on p.bytes p'.bytes p.registers p'.registers p.rest next next' s.bytes s.registers f)

  put_whole_on : (regs regs' : Registers) (r r' : ℕ) (bytes bytes' : List ℕ) (rest : Option (List Symbol)) → SameRegisters regs regs' → G P Q a r r' → bytes ≡ bytes' → SameRegisters (put_whole regs r bytes rest) (put_whole regs' r' bytes' rest)
  put_whole_on regs regs' r r' bytes bytes' None h g e = h
  put_whole_on regs regs' r r' bytes bytes' (Some c) h g e = put_on regs regs' r r' bytes bytes' h g e

  kept_on : (r r' : ℕ) (p p' : PartMeaning) → G P Q a r r' → SamePart p p' → SamePart (kept_part r p) (kept_part r' p')
  kept_on r r' p p' g s = record {
    bytes = refl;
    registers = subst (λ z. SameRegisters (put_whole p.registers r p.bytes p.rest) (put_whole p'.registers r' p'.bytes z)) s.rest (put_whole_on p.registers p'.registers r r' p.bytes p'.bytes p.rest s.registers g s.bytes);
    rest = s.rest;
  }

-- ---- trees

module _ (P Q : Grammar) (a : Alike P Q) (known : (name at : ℕ) → IsUse P name at → IsDefined P.definitions name) where
  -- kinds that do the same
  abbrev pub Same : Kind → Kind → Type 0
  Same k l = SameKind (Partners P Q a known) (Defined P Q a known) (G P Q a) k l

  below : (n m : ℕ) → Partners P Q a known n m → Same (kind_at P n) (kind_at Q m)
  below n m h = partners_on P Q a known n m h

  called : (k l : ℕ) → Defined P Q a known k l → Same (kind_at P (root_of P k)) (kind_at Q (root_of Q l))
  called k l h = below (root_of P k) (root_of Q l) (root_on P Q a known k l h)

  pub tree_on : {k l : Kind} {t : Tree} → Same k l → IsTree P k t → IsTree Q l t
  tree_on kinds.one one = one
  tree_on kinds.lit lit = lit
  tree_on (kinds.class e) (one_byte {b = b} i) = one_byte (subst (λ z. IsTrue z) (e b) i)
  tree_on (kinds.call e) (call s) = call (tree_on (called _ _ e) s)
  tree_on (kinds.seq e f) (seq s t) = seq (tree_on (below _ _ e) s) (tree_on (below _ _ f) t)
  tree_on (kinds.alt e f) (alt_left s) = alt_left (tree_on (below _ _ e) s)
  tree_on (kinds.alt e f) (alt_right s) = alt_right (tree_on (below _ _ f) s)
  tree_on (kinds.rep e) (needed s t) = needed (tree_on (below _ _ e) s) (tree_on (kinds.rep e) t)
  tree_on (kinds.rep e) (again i s t) = again i (tree_on (below _ _ e) s) (tree_on (kinds.rep e) t)
  tree_on (kinds.rep e) end = end
  tree_on (kinds.mute e) (mute s) = mute (tree_on (below _ _ e) s)
  tree_on (kinds.at_register g e) (at_register s) = at_register (tree_on (below _ _ e) s)
  tree_on (kinds.write_register g) write_register = write_register
  tree_on (kinds.set_register g p) set_register = set_register
  tree_on (kinds.add_register g p) add_register = add_register

  pub code_on : {k l : Kind} {t : Tree} → Same k l → IsTree P k t → code P k t ≡ code Q l t
  code_on kinds.one one = refl
  code_on kinds.lit lit = refl
  code_on (kinds.class e) (one_byte i) = refl
  code_on (kinds.call e) (call s) = code_on (called _ _ e) s
  code_on (kinds.seq e f) (seq s t) = ap₂ (λ x y. x ++ y) (code_on (below _ _ e) s) (code_on (below _ _ f) t)
  code_on (kinds.alt e f) (alt_left s) = ap (λ z. L ∷ z) (code_on (below _ _ e) s)
  code_on (kinds.alt e f) (alt_right s) = ap (λ z. R ∷ z) (code_on (below _ _ f) s)
  code_on (kinds.rep e) (needed s t) = ap₂ (λ x y. x ++ y) (code_on (below _ _ e) s) (code_on (kinds.rep e) t)
  code_on (kinds.rep {lazy = lazy} e) (again i s t) = ap₂ (λ x y. turn_mark lazy zero ++ (x ++ y)) (code_on (below _ _ e) s) (code_on (kinds.rep e) t)
  code_on (kinds.rep e) end = refl
  code_on (kinds.mute e) (mute s) = code_on (below _ _ e) s
  code_on (kinds.at_register g e) (at_register s) = code_on (below _ _ e) s
  code_on (kinds.write_register g) write_register = refl
  code_on (kinds.set_register g p) set_register = refl
  code_on (kinds.add_register g p) add_register = refl

  pub part_on : {k l : Kind} {t : Tree} → Same k l → IsTree P k t → (c : List Symbol) (regs regs' : Registers) → SameRegisters P Q a regs regs' → SamePart P Q a (part_meaning P k t c regs) (part_meaning Q l t c regs')
  part_on kinds.one one c regs regs' h = record { bytes = refl; registers = h; rest = refl }
  part_on kinds.lit lit c regs regs' h = record { bytes = refl; registers = h; rest = refl }
  part_on (kinds.class e) (one_byte {b = b} i) c regs regs' h = behind_on P Q a (Byte b ∷ []) c regs regs' _ _ h (λ d. record { bytes = refl; registers = h; rest = refl })
  part_on (kinds.call e) (call s) c regs regs' h = part_on (called _ _ e) s c regs regs' h
  part_on (kinds.seq e f) (seq s t) c regs regs' h = then_on P Q a _ _ _ _ (part_on (below _ _ e) s c regs regs' h) (part_on (below _ _ f) t)
  part_on (kinds.alt e f) (alt_left s) c regs regs' h = behind_on P Q a (L ∷ []) c regs regs' _ _ h (λ d. part_on (below _ _ e) s d regs regs' h)
  part_on (kinds.alt e f) (alt_right s) c regs regs' h = behind_on P Q a (R ∷ []) c regs regs' _ _ h (λ d. part_on (below _ _ f) s d regs regs' h)
  part_on (kinds.rep e) (needed s t) c regs regs' h = then_on P Q a _ _ _ _ (part_on (below _ _ e) s c regs regs' h) (part_on (kinds.rep e) t)
  part_on (kinds.rep {lazy = lazy} e) (again i s t) c regs regs' h = behind_on P Q a (turn_mark lazy zero) c regs regs' _ _ h (λ d. then_on P Q a _ _ _ _ (part_on (below _ _ e) s d regs regs' h) (part_on (kinds.rep e) t))
  part_on (kinds.rep {lazy = lazy} e) (end {max = max}) c regs regs' h = behind_on P Q a (end_mark lazy max) c regs regs' _ _ h (λ d. record { bytes = refl; registers = h; rest = refl })
  part_on (kinds.mute e) (mute s) c regs regs' h = let x = part_on (below _ _ e) s c regs regs' h in record { bytes = refl; registers = x.registers; rest = x.rest }
  part_on (kinds.at_register g e) (at_register s) c regs regs' h = kept_on P Q a _ _ _ _ g (part_on (below _ _ e) s c regs regs' h)
  part_on (kinds.write_register {r = r} {r' = r'} g) write_register c regs regs' h = record { bytes = h.same r r' g; registers = h; rest = refl }
  part_on (kinds.set_register {r = r} {r' = r'} g p) set_register c regs regs' h = record { bytes = refl; registers = put_on P Q a regs regs' r r' _ _ h g (joined_on P Q a regs regs' h p); rest = refl }
  part_on (kinds.add_register {r = r} {r' = r'} g p) add_register c regs regs' h = record { bytes = refl; registers = put_on P Q a regs regs' r r' _ _ h g (ap₂ (λ x y. x ++ y) (h.same r r' g) (joined_on P Q a regs regs' h p)); rest = refl }

whole_part : (P : Grammar) (k : Kind) (t : Tree) → IsTree P k t → (part_meaning P k t (code P k t) (empty P)).bytes ≡ (meaning P k t (empty P)).bytes
whole_part P k t it = ap (λ z. (part_meaning P k t z (empty P)).bytes) (sym (append-nil (code P k t))) ∙ ap (λ z. z.bytes) (part_whole P [] (empty P) it)

-- a tree means the same in both
pub meaning_on : (P Q : Grammar) (a : Alike P Q) (known : (name at : ℕ) → IsUse P name at → IsDefined P.definitions name) {k l : Kind} {t : Tree} → Same P Q a known k l → IsTree P k t → (meaning P k t (empty P)).bytes ≡ (meaning Q l t (empty Q)).bytes
meaning_on P Q a known {k = k} {l = l} {t = t} s it =
    let both = part_on P Q a known s it (code P k t) (empty P) (empty Q) (same_empty P Q a) in
    sym (whole_part P k t it) ∙ both.bytes ∙ ap (λ z. (part_meaning Q l t z (empty Q)).bytes) (code_on P Q a known s it) ∙ whole_part Q l t (tree_on P Q a known s it)
