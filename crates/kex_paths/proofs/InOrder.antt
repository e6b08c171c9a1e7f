-- The lists of an update have old registers first, then the byte that is read, and then symbols.
use Rattle.std.proofs.Common.{◌≡◌, ◌≢◌, ℕ, suc, ◌+◌, Bool, true, false, List, [], ◌∷◌, ◌++◌, Option, Some, None, length, replicate, refl, sym, ap, subst, ◌∙◌}
use Rattle.kex_code.specs.declared.symbol.Symbol.{Symbol}
use Rattle.kex_code.specs.declared.symbol.Symbol.TheVariants.{L, R}
use Rattle.kex_model.specs.Moves.{Move, symbol_of}
use Rattle.kex_model.specs.Labelled.{tip, labels_of, Shape, place, parts, shape_of, size_of, Grown, with_prefix, fork_of}
use Rattle.kex_machine.specs.Nodes.{Graph, node_moves}
use Rattle.kex_machine.specs.Advancing.{known, stops, parts_off, is_forced, passes_on, Advances, dies, reads_on}
use Rattle.kex_machine.proofs.Unique.{tree_unique}
use Rattle.kex_sst.specs.declared.parts.Part.{Part}
use Rattle.kex_sst.specs.declared.parts.Part.TheVariants.{Put, Old, Input}
use Rattle.kex_sst.specs.Parts.{Change}
use Rattle.kex_paths.specs.Nexts.{Explores, TreeGoesOn, IsChange}
use Rattle.kex_paths.specs.Laws.{ArePartsInOrder, ArePuts, EachList, Determines, DeterminesFirst, OneShape}
use Rattle.kex_paths.proofs.Copyless.{sides_of, next_reads}
use Rattle.kex_paths.proofs.Sizes.{one_next, one_first}

each-append : (P : List Part → Type 0) (xs ys : List (List Part)) → EachList P xs → EachList P ys → EachList P (xs ++ ys)
each-append P [] ys h k = k
each-append P (x ∷ xs) ys h k = (h.0, each-append P xs ys h.1 k)

each_more : (P Q : List Part → Type 0) → ((x : List Part) → P x → Q x) → (xs : List (List Part)) → EachList P xs → EachList Q xs
each_more P Q f [] h = tt
each_more P Q f (x ∷ xs) h = (f x h.0, each_more P Q f xs h.1)

-- all labels of a tree, and the one before it
abbrev pub Holds : (List Part → Type 0) → Option (Grown Part ℕ) → Type 0
Holds P None = Unit {0}
Holds P (Some g) = P g.label × EachList P (labels_of g.tree)

behind_holds : (P : List Part → Type 0) (x : List Part) (a : Option (Grown Part ℕ)) → ((c : List Part) → P c → P (x ++ c)) → Holds P a → Holds P (with_prefix x a)
behind_holds P x None f h = tt
behind_holds P x (Some g) f h = (f g.label h.0, h.1)

joined_holds : (P : List Part → Type 0) (a b : Option (Grown Part ℕ)) → P [] → Holds P a → Holds P b → Holds P (fork_of a b)
joined_holds P None None e h k = tt
joined_holds P None (Some r) e h k = k
joined_holds P (Some l) None e h k = h
joined_holds P (Some l) (Some r) e h k = (e, (h.0, each-append P (labels_of l.tree) (r.label ∷ labels_of r.tree) h.1 (k.0, k.1)))

one_put : (s : Symbol) (c : List Part) → ArePuts c → ArePuts (Put s ∷ c)
one_put s c (d, e) = (s ∷ d, ap (λ z. Put s ∷ z) e)

no_puts : ArePuts []
no_puts = ([], refl)

visit_puts : {moves : ℕ → Move ℕ} {f g : List Bool} {n : ℕ} {a : Option (Grown Part ℕ)} → Explores moves f n a g → Holds ArePuts a
visit_puts (known e) = tt
visit_puts (stops lt e w) = (no_puts, tt)
visit_puts (parts_off {a = a} {b = b} lt e m v u) = joined_holds ArePuts (with_prefix (Put L ∷ []) a) (with_prefix (Put R ∷ []) b) no_puts (behind_holds ArePuts (Put L ∷ []) a (one_put L) (visit_puts v)) (behind_holds ArePuts (Put R ∷ []) b (one_put R) (visit_puts u))
visit_puts (is_forced {x = x} {a = a} lt e m v) = behind_holds ArePuts (Put (symbol_of x) ∷ []) a (one_put (symbol_of x)) (visit_puts v)
visit_puts (passes_on lt e m v) = visit_puts v

puts_in_order : (c : List Part) → ArePuts c → ArePartsInOrder c
puts_in_order c (d, e) = record { registers = []; read = false; symbols = d; whole = e; between = λ r s. absurd (r refl) }

-- the label of a whole tree: symbols are in it only after the byte, so old registers may go before them
pub record IsRootLabel (c : List Part) : Type 0 where
  pub order : ArePartsInOrder c
  pub read_first : order.symbols ≢ [] → order.read ≡ true

root_order : (c : List Part) → IsRootLabel c → ArePartsInOrder c
root_order c h = h.order

none_is_root : IsRootLabel []
none_is_root = record {
  order = record { registers = []; read = false; symbols = []; whole = refl; between = λ r s. absurd (r refl) };
  read_first = λ s. absurd (s refl);
}

read_is_root : (c : List Part) → ArePuts c → IsRootLabel (Input ∷ c)
read_is_root c (d, e) = record {
  order = record { registers = []; read = true; symbols = d; whole = ap (λ z. Input ∷ z) e; between = λ r s. refl };
  read_first = λ s. refl;
}

old_is_root : (k : ℕ) (c : List Part) → IsRootLabel c → IsRootLabel (Old k ∷ c)
old_is_root k c h = record {
  order = record {
    registers = k ∷ h.order.registers;
    read = h.order.read;
    symbols = h.order.symbols;
    whole = ap (λ z. Old k ∷ z) h.order.whole;
    between = λ r s. h.read_first s;
  };
  read_first = h.read_first;
}

-- a tree's root label, and the labels of its edges
abbrev AreInOrder : Option (Grown Part ℕ) → Type 0
AreInOrder None = Unit {0}
AreInOrder (Some g) = IsRootLabel g.label × EachList ArePartsInOrder (labels_of g.tree)

read_orders : (a : Option (Grown Part ℕ)) → Holds ArePuts a → AreInOrder (with_prefix (Input ∷ []) a)
read_orders None h = tt
read_orders (Some g) h = (read_is_root g.label h.0, each_more ArePuts ArePartsInOrder puts_in_order (labels_of g.tree) h.1)

old_orders : (k : ℕ) (a : Option (Grown Part ℕ)) → AreInOrder a → AreInOrder (with_prefix (Old k ∷ []) a)
old_orders k None h = tt
old_orders k (Some g) h = (old_is_root k g.label h.0, h.1)

joined_orders : (a b : Option (Grown Part ℕ)) → AreInOrder a → AreInOrder b → AreInOrder (fork_of a b)
joined_orders None None h k = tt
joined_orders None (Some r) h k = k
joined_orders (Some l) None h k = h
joined_orders (Some l) (Some r) h k =
    (none_is_root, (root_order l.label h.0, each-append ArePartsInOrder (labels_of l.tree) (r.label ∷ labels_of r.tree) h.1 (root_order r.label k.0, k.1)))

tip_in_order : {moves : ℕ → Move ℕ} {b p : ℕ} {f g : List Bool} {a : Option (Grown Part ℕ)} → Advances (λ s. Put s) Input moves b f (tip p) a g → AreInOrder a
tip_in_order (dies h) = tt
tip_in_order (reads_on {a = a} h v) = read_orders a (visit_puts v)

advance_in_order : (moves : ℕ → Move ℕ) (b k : ℕ) (f g : List Bool) (s : Shape ℕ) (a : Option (Grown Part ℕ)) → TreeGoesOn moves b k f s a g → AreInOrder a
advance_in_order moves b k f g (place p) a v = tip_in_order v
advance_in_order moves b k f g (parts l r) a w =
    let t = sides_of w in
    let p = advance_in_order moves b (suc k) f t.between l t.left t.first in
    let q = advance_in_order moves b (suc (k + size_of l)) t.between g r t.right t.second in
    subst AreInOrder (sym t.whole) (joined_orders (with_prefix (Old k ∷ []) t.left) (with_prefix (Old (k + size_of l) ∷ []) t.right) (old_orders k t.left p) (old_orders (k + size_of l) t.right q))

changed : (P : List Part → Type 0) (u : Change) (a : Grown Part ℕ) → IsChange u a → Holds P (Some a) → P u.out × EachList P u.regs
changed P u a change h = (subst P (sym change.0) h.0, subst (λ z. EachList P z) (sym change.1) h.1)

pub determines : (g : Graph) (b : ℕ) (s : Shape ℕ) → Determines g b s
determines g b s = record {
  one = one_next g b s;
  in_order = λ u a next change. let h = advance_in_order (node_moves g.nodes) b 0 (replicate (length g.nodes) false) next.0 s (Some a) next.1 in changed ArePartsInOrder u a change (root_order a.label h.0, h.1);
  rises = next_reads g b s;
}

pub determines_first : (g : Graph) → DeterminesFirst g
determines_first g = record {
  one = one_first g;
  symbols = λ u a first change. changed ArePuts u a change (visit_puts first.1);
}

pub a_shape : (g : Graph) (w : List ℕ) → OneShape g w
a_shape g w s t (c, x, h, e) (d, y, k, f) = sym e ∙ ap shape_of (tree_unique (node_moves g.nodes) g.start w c d x y h k).0 ∙ f
