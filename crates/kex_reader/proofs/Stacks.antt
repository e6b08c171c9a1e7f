-- Constructs and the entries that they show.
use Rattle.std.proofs.Common.{◌≡◌, ℕ, suc, ◌+◌, ◌<◌, List, [], ◌∷◌, ◌++◌, length, Option, Some, None, refl, sym, ap, ◌∙◌, subst, arith, length-append}
use Rattle.std.proofs.lemmas.Option.{slice_get_within}
use Rattle.kex_model.specs.declared.program.Kind.TheVariants as kinds
use Rattle.kex_reader.specs.declared.stack.TermConstruct.{TermConstruct}
use Rattle.kex_reader.specs.declared.stack.TermConstruct.TheVariants as constructs
use Rattle.kex_reader.specs.declared.stack.Prefix.{Prefix}
use Rattle.kex_reader.specs.declared.stack.Prefix.TheVariants as prefixes
use Rattle.kex_reader.specs.declared.stack.PlacedNode.{PlacedNode as Shown}
use Rattle.kex_reader.specs.declared.stack.PlacedRegister.{PlacedRegister}
use Rattle.kex_reader.specs.Syntax.{Term, Last, Or, Seq, Only, Then, Pre, Mute, Into, seq, pre}
use Rattle.kex_reader.specs.Reading.{Entry, Mark, Ended, Done, Muted, Storing, entries, entry, with_pre, take_more, take_seq, take_branches, term_of, take_term}
use Rattle.kex_reader.specs.Shown.{Made, IsNode, ShowsTerm, ShowsSeq, ShowsPre}
use Rattle.kex_reader.specs.Stands.{Keeps, ConstructsShow, SeqTaken, TermTaken, construct_of, prefixed_kind, prefix_at, HasRegisterBelow, open_constructs, depth}
use Rattle.kex_reader.proofs.Drafts.{term_more, seq_more, pre_more, pre_within, seq_within, term_within}

pub constructs_more : (a b : Made) (at : ℕ → ℕ) (base : ℕ) (fs : List TermConstruct) (es : List Entry) → Keeps a b → ConstructsShow a at base fs es → ConstructsShow b at base fs es
unfolding ConstructsShow
constructs_more a b at base [] [] k h = tt
constructs_more a b at base [] (e ∷ es) k h = absurd h
constructs_more a b at base (constructs.Mark x ∷ fs) (Mark ∷ es) k h = (h.0, constructs_more a b at base fs es k h.1)
constructs_more a b at base (constructs.Ended p ∷ fs) (Ended s ∷ es) k h = (h.0, seq_more s a b at p.node (base + length (entries es)) k h.1, constructs_more a b at base fs es k h.2)
constructs_more a b at base (constructs.Done p ∷ fs) (Done q ∷ es) k h = (h.0, pre_more q a b at p.node (base + length (entries es)) k h.1, constructs_more a b at base fs es k h.2)
constructs_more a b at base (constructs.Muted x ∷ fs) (Muted ∷ es) k h = (h.0, constructs_more a b at base fs es k h.1)
constructs_more a b at base (constructs.Storing s ∷ fs) (Storing r ∷ es) k h = (h.0, k.registers s.register r h.1, constructs_more a b at base fs es k h.2)
constructs_more a b at base (f ∷ fs) _ k h = absurd h

-- as many are open
pub depth_is : (a : Made) (at : ℕ → ℕ) (base : ℕ) (fs : List TermConstruct) (es : List Entry) → ConstructsShow a at base fs es → open_constructs fs ≡ depth es
unfolding ConstructsShow open_constructs depth
depth_is a at base [] [] h = refl
depth_is a at base [] (e ∷ es) h = absurd h
depth_is a at base (constructs.Mark x ∷ fs) (Mark ∷ es) h = ap suc (depth_is a at base fs es h.1)
depth_is a at base (constructs.Ended p ∷ fs) (Ended s ∷ es) h = depth_is a at base fs es h.2
depth_is a at base (constructs.Done p ∷ fs) (Done q ∷ es) h = depth_is a at base fs es h.2
depth_is a at base (constructs.Muted x ∷ fs) (Muted ∷ es) h = ap suc (depth_is a at base fs es h.1)
depth_is a at base (constructs.Storing s ∷ fs) (Storing r ∷ es) h = ap suc (depth_is a at base fs es h.2)
depth_is a at base (f ∷ fs) _ h = absurd h

-- ---- members

pub record DoneOn (a : Made) (at : ℕ → ℕ) (base : ℕ) (part : Shown) (fs : List TermConstruct) (es : List Entry) : Type 0 where
  pub tree : Pre
  pub rest : List Entry
  pub is : es ≡ Done tree ∷ rest
  pub place : part.at ≡ at (base + length (entries rest))
  pub shows : ShowsPre tree a at part.node (base + length (entries rest))
  pub below : ConstructsShow a at base fs rest

pub done_on : (a : Made) (at : ℕ → ℕ) (base : ℕ) (part : Shown) (fs : List TermConstruct) (es : List Entry) → ConstructsShow a at base (constructs.Done part ∷ fs) es → DoneOn a at base part fs es
unfolding ConstructsShow
done_on a at base part fs (Done q ∷ es) h = record { tree = q; rest = es; is = refl; place = h.0; shows = h.1; below = h.2 }
done_on a at base part fs _ h = absurd h

pub record EndedOn (a : Made) (at : ℕ → ℕ) (base : ℕ) (part : Shown) (fs : List TermConstruct) (es : List Entry) : Type 0 where
  pub tree : Seq
  pub rest : List Entry
  pub is : es ≡ Ended tree ∷ rest
  pub place : part.at ≡ at (base + length (entries rest))
  pub shows : ShowsSeq tree a at part.node (base + length (entries rest))
  pub below : ConstructsShow a at base fs rest

pub ended_on : (a : Made) (at : ℕ → ℕ) (base : ℕ) (part : Shown) (fs : List TermConstruct) (es : List Entry) → ConstructsShow a at base (constructs.Ended part ∷ fs) es → EndedOn a at base part fs es
unfolding ConstructsShow
ended_on a at base part fs (Ended s ∷ es) h = record { tree = s; rest = es; is = refl; place = h.0; shows = h.1; below = h.2 }
ended_on a at base part fs _ h = absurd h

-- ---- prefixes

-- a pre that is put together, from its last prefix on
pub record PreSoFar (a : Made) (at : ℕ → ℕ) (base : ℕ) (fs : List TermConstruct) (part : Shown) (t : List Entry) : Type 0 where
  pub rest : List Entry
  pub tree : Pre
  pub place : part.at ≡ at (base + length (entries rest))
  pub shows : ShowsPre tree a at part.node (base + length (entries rest))
  pub below : ConstructsShow a at base fs rest
  pub same : with_pre tree rest ≡ t

pub put_begins : (a : Made) (at : ℕ → ℕ) (base : ℕ) (fs : List TermConstruct) (part : Shown) (es : List Entry) (p : Pre) → ConstructsShow a at base fs es → part.at ≡ at (base + length (entries es)) → ShowsPre p a at part.node (base + length (entries es)) → PreSoFar a at base fs part (with_pre p es)
put_begins a at base fs part es p h e s = record { rest = es; tree = p; place = e; shows = s; below = h; same = refl }

pub put_more : (a b : Made) (at : ℕ → ℕ) (base : ℕ) (old new : List TermConstruct) (prefix : Prefix) (part whole : Shown) (t : List Entry) → old ≡ construct_of prefix ∷ new → Keeps a b → IsNode b whole.node (prefixed_kind prefix part.node) (prefix_at prefix) → whole.at ≡ prefix_at prefix → PreSoFar a at base old part t → PreSoFar b at base new whole t
unfolding ConstructsShow ShowsPre with_pre entries entry
put_more a b at base old new prefix part whole t e k n w s = go prefix s.rest (subst (λ (x : List TermConstruct). ConstructsShow a at base x s.rest) e s.below) n w s.shows s.same
  where
    go : (prefix : Prefix) (rest : List Entry) → ConstructsShow a at base (construct_of prefix ∷ new) rest → IsNode b whole.node (prefixed_kind prefix part.node) (prefix_at prefix) → whole.at ≡ prefix_at prefix → ShowsPre s.tree a at part.node (base + length (entries rest)) → with_pre s.tree rest ≡ t → PreSoFar b at base new whole t
    go (prefixes.Mute x) (Muted ∷ rest) h n w sh same =
        let i = base + length (entries rest) in
        let j : base + length (entries rest ++ (Rattle.kex_reader.specs.Syntax.Tilde ∷ [])) ≡ i + 1 = omega (arith, length-append (entries rest) (Rattle.kex_reader.specs.Syntax.Tilde ∷ [])) in
        record {
          rest = rest;
          tree = Mute s.tree;
          place = w ∙ h.0;
          shows = (part.node, subst (λ (y : ℕ). IsNode b whole.node (kinds.Mute part.node) y) h.0 n, subst (λ (y : ℕ). ShowsPre s.tree b at part.node y) j (pre_more s.tree a b at part.node _ k sh));
          below = constructs_more a b at base new rest k h.1;
          same = same;
        }
    go (prefixes.Store st) (Storing r ∷ rest) h n w sh same =
        let i = base + length (entries rest) in
        let j : base + length (entries rest ++ (Rattle.kex_reader.specs.Syntax.Name r ∷ Rattle.kex_reader.specs.Syntax.At ∷ [])) ≡ i + 2 = omega (arith, length-append (entries rest) (Rattle.kex_reader.specs.Syntax.Name r ∷ Rattle.kex_reader.specs.Syntax.At ∷ [])) in
        record {
          rest = rest;
          tree = Into r s.tree;
          place = w ∙ h.0;
          shows = (st.register, part.node, subst (λ (y : ℕ). IsNode b whole.node (kinds.At st.register part.node) y) h.0 n, k.registers st.register r h.1, subst (λ (y : ℕ). ShowsPre s.tree b at part.node y) j (pre_more s.tree a b at part.node _ k sh));
          below = constructs_more a b at base new rest k h.2;
          same = same;
        }
    go (prefixes.Mute x) _ h n w sh same = absurd h
    go (prefixes.Store st) _ h n w sh same = absurd h

-- no prefix on top
pub no_prefix : (a : Made) (at : ℕ → ℕ) (base : ℕ) (fs : List TermConstruct) (es : List Entry) (p : Pre) → ((x : ℕ) (gs : List TermConstruct) → fs ≡ constructs.Muted x ∷ gs → ⊥) → ((x : PlacedRegister) (gs : List TermConstruct) → fs ≡ constructs.Storing x ∷ gs → ⊥) → ConstructsShow a at base fs es → with_pre p es ≡ Done p ∷ es
unfolding ConstructsShow with_pre
no_prefix a at base fs [] p m n h = refl
no_prefix a at base fs (Mark ∷ es) p m n h = refl
no_prefix a at base fs (Ended s ∷ es) p m n h = refl
no_prefix a at base fs (Done q ∷ es) p m n h = refl
no_prefix a at base (constructs.Muted x ∷ fs) (Muted ∷ es) p m n h = absurd (m x fs refl)
no_prefix a at base (constructs.Storing x ∷ fs) (Storing r ∷ es) p m n h = absurd (n x fs refl)
no_prefix a at base _ (Muted ∷ es) p m n h = absurd h
no_prefix a at base _ (Storing r ∷ es) p m n h = absurd h

pub put_done : (a : Made) (at : ℕ → ℕ) (base : ℕ) (old fs gs : List TermConstruct) (part : Shown) (t : List Entry) → fs ≡ old → ((x : ℕ) (gs : List TermConstruct) → old ≡ constructs.Muted x ∷ gs → ⊥) → ((x : PlacedRegister) (gs : List TermConstruct) → old ≡ constructs.Storing x ∷ gs → ⊥) → gs ≡ constructs.Done part ∷ fs → PreSoFar a at base old part t → ConstructsShow a at base gs t
unfolding ConstructsShow
put_done a at base old fs gs part t same m n e s =
    let d = no_prefix a at base old s.rest s.tree m n s.below in
    subst (λ (x : List Entry). ConstructsShow a at base gs x) (sym d ∙ s.same) (subst (λ (x : List TermConstruct). ConstructsShow a at base x (Done s.tree ∷ s.rest)) (sym (e ∙ ap (λ (x : List TermConstruct). constructs.Done part ∷ x) same)) (s.place, s.shows, s.below))

pub prefix_register : (a : Made) (at : ℕ → ℕ) (base : ℕ) (old new : List TermConstruct) (prefix : Prefix) (part : Shown) (t : List Entry) → old ≡ construct_of prefix ∷ new → PreSoFar a at base old part t → HasRegisterBelow (length a.registers) prefix
unfolding ConstructsShow
prefix_register a at base old new (prefixes.Mute x) part t e s = tt
prefix_register a at base old new (prefixes.Store st) part t e s = go s.rest (subst (λ (x : List TermConstruct). ConstructsShow a at base x s.rest) e s.below)
  where
    go : (rest : List Entry) → ConstructsShow a at base (constructs.Storing st ∷ new) rest → st.register < length a.registers
    go (Storing r ∷ rest) h = slice_get_within a.registers st.register r h.1
    go _ h = absurd h

-- ---- sequences

pub record SeqSoFar (a : Made) (at : ℕ → ℕ) (base : ℕ) (fs : List TermConstruct) (part : Shown) (o : Option (Seq × List Entry)) : Type 0 where
  pub rest : List Entry
  pub tree : Seq
  pub place : part.at ≡ at (base + length (entries rest))
  pub shows : ShowsSeq tree a at part.node (base + length (entries rest))
  pub below : ConstructsShow a at base fs rest
  pub same : Some (take_more rest tree) ≡ o

pub seq_begins : (a : Made) (at : ℕ → ℕ) (base : ℕ) (old new : List TermConstruct) (es : List Entry) (part : Shown) → old ≡ constructs.Done part ∷ new → ConstructsShow a at base old es → SeqSoFar a at base new part (take_seq es)
unfolding take_seq ShowsSeq
seq_begins a at base old new es part e h =
    let d = done_on a at base part new es (subst (λ (x : List TermConstruct). ConstructsShow a at base x es) e h) in
    record { rest = d.rest; tree = Only d.tree; place = d.place; shows = d.shows; below = d.below; same = ap take_seq (sym d.is) }

pub seq_more_on : (a b : Made) (at : ℕ → ℕ) (base : ℕ) (old new : List TermConstruct) (part front : Shown) (n : ℕ) (o : Option (Seq × List Entry)) → old ≡ constructs.Done front ∷ new → Keeps a b → IsNode b n (kinds.Seq front.node part.node) front.at → SeqSoFar a at base old part o → SeqSoFar b at base new (record { node = n; at = front.at }) o
unfolding take_more ShowsSeq entries entry
seq_more_on a b at base old new part front n o e k here s =
    let d = done_on a at base front new s.rest (subst (λ (x : List TermConstruct). ConstructsShow a at base x s.rest) e s.below) in
    let j : base + length (entries s.rest) ≡ base + length (entries d.rest) + length (pre d.tree) = omega (arith, ap (λ (x : List Entry). length (entries x)) d.is, length-append (entries d.rest) (pre d.tree)) in
    record {
      rest = d.rest;
      tree = Then d.tree s.tree;
      place = d.place;
      shows = (front.node, part.node, subst (λ (y : ℕ). IsNode b n (kinds.Seq front.node part.node) y) d.place here, pre_more d.tree a b at front.node _ k d.shows, subst (λ (y : ℕ). ShowsSeq s.tree b at part.node y) j (seq_more s.tree a b at part.node _ k s.shows));
      below = constructs_more a b at base new d.rest k d.below;
      same = ap (λ (x : List Entry). Some (take_more x s.tree)) (sym d.is) ∙ s.same;
    }

pub no_done : (a : Made) (at : ℕ → ℕ) (base : ℕ) (fs : List TermConstruct) (es : List Entry) (s : Seq) → ((x : Shown) (gs : List TermConstruct) → fs ≡ constructs.Done x ∷ gs → ⊥) → ConstructsShow a at base fs es → take_more es s ≡ (s, es)
unfolding ConstructsShow take_more
no_done a at base fs [] s n h = refl
no_done a at base fs (Mark ∷ es) s n h = refl
no_done a at base fs (Ended t ∷ es) s n h = refl
no_done a at base fs (Muted ∷ es) s n h = refl
no_done a at base fs (Storing r ∷ es) s n h = refl
no_done a at base (constructs.Done x ∷ fs) (Done q ∷ es) s n h = absurd (n x fs refl)
no_done a at base _ (Done q ∷ es) s n h = absurd h

pub no_seq : (a : Made) (at : ℕ → ℕ) (base : ℕ) (fs : List TermConstruct) (es : List Entry) → ((x : Shown) (gs : List TermConstruct) → fs ≡ constructs.Done x ∷ gs → ⊥) → ConstructsShow a at base fs es → take_seq es ≡ None
unfolding ConstructsShow take_seq
no_seq a at base fs [] n h = refl
no_seq a at base fs (Mark ∷ es) n h = refl
no_seq a at base fs (Ended t ∷ es) n h = refl
no_seq a at base fs (Muted ∷ es) n h = refl
no_seq a at base fs (Storing r ∷ es) n h = refl
no_seq a at base (constructs.Done x ∷ fs) (Done q ∷ es) n h = absurd (n x fs refl)
no_seq a at base _ (Done q ∷ es) n h = absurd h

pub seq_done : (a : Made) (at : ℕ → ℕ) (base : ℕ) (old fs : List TermConstruct) (part : Shown) (o : Option (Seq × List Entry)) → fs ≡ old → ((x : Shown) (gs : List TermConstruct) → old ≡ constructs.Done x ∷ gs → ⊥) → SeqSoFar a at base old part o → SeqTaken a at base fs (Some part) o
seq_done a at base old fs part o e n s =
    let d = no_done a at base old s.rest s.tree n s.below in
    subst (λ (x : Option (Seq × List Entry)). SeqTaken a at base fs (Some part) x) (sym (ap (λ (x : Seq × List Entry). Some x) d) ∙ s.same)
    (record { place = s.place; shows = s.shows; below = subst (λ (x : List TermConstruct). ConstructsShow a at base x s.rest) (sym e) s.below })

pub seq_none : (a : Made) (at : ℕ → ℕ) (base : ℕ) (old fs : List TermConstruct) (es : List Entry) → ((x : Shown) (gs : List TermConstruct) → old ≡ constructs.Done x ∷ gs → ⊥) → ConstructsShow a at base old es → SeqTaken a at base fs None (take_seq es)
seq_none a at base old fs es n h = subst (λ (x : Option (Seq × List Entry)). SeqTaken a at base fs None x) (sym (no_seq a at base old es n h)) tt

pub done_within : (a : Made) (at : ℕ → ℕ) (base : ℕ) (old new : List TermConstruct) (front part : Shown) (o : Option (Seq × List Entry)) → old ≡ constructs.Done front ∷ new → SeqSoFar a at base old part o → (front.node < length a.nodes) × (part.node < length a.nodes)
done_within a at base old new front part o e s =
    let d = done_on a at base front new s.rest (subst (λ (x : List TermConstruct). ConstructsShow a at base x s.rest) e s.below) in
    (pre_within d.tree a at front.node _ d.shows, seq_within s.tree a at part.node _ s.shows)

-- ---- terms

pub record TermSoFar (a : Made) (at : ℕ → ℕ) (base : ℕ) (fs : List TermConstruct) (part : Shown) (o : Option (Term × List Entry)) : Type 0 where
  pub rest : List Entry
  pub tree : Term
  pub place : part.at ≡ at (base + length (entries rest))
  pub shows : ShowsTerm tree a at part.node (base + length (entries rest))
  pub below : ConstructsShow a at base fs rest
  pub same : Some (take_branches rest tree) ≡ o

pub term_begins : (a : Made) (at : ℕ → ℕ) (base : ℕ) (fs : List TermConstruct) (es : List Entry) (part : Shown) → SeqTaken a at base fs (Some part) (take_seq es) → TermSoFar a at base fs part (take_term es)
unfolding take_term term_of ShowsTerm
term_begins a at base fs es part h = go (take_seq es) h
  where
    go : (o : Option (Seq × List Entry)) → SeqTaken a at base fs (Some part) o → TermSoFar a at base fs part (term_of o)
    go None h = absurd h
    go (Some t) h = record { rest = t.1; tree = Last t.0; place = h.place; shows = h.shows; below = h.below; same = refl }

pub term_more_on : (a b : Made) (at : ℕ → ℕ) (base : ℕ) (old new : List TermConstruct) (part front : Shown) (n : ℕ) (o : Option (Term × List Entry)) → old ≡ constructs.Ended front ∷ new → Keeps a b → IsNode b n (kinds.Alt front.node part.node) front.at → TermSoFar a at base old part o → TermSoFar b at base new (record { node = n; at = front.at }) o
unfolding take_branches ShowsTerm entries entry
term_more_on a b at base old new part front n o e k here s =
    let d = ended_on a at base front new s.rest (subst (λ (x : List TermConstruct). ConstructsShow a at base x s.rest) e s.below) in
    let j : base + length (entries s.rest) ≡ base + length (entries d.rest) + length (seq d.tree) + 1 = omega (arith, ap (λ (x : List Entry). length (entries x)) d.is, length-append (entries d.rest) (seq d.tree ++ Rattle.kex_reader.specs.Syntax.Bar ∷ []), length-append (seq d.tree) (Rattle.kex_reader.specs.Syntax.Bar ∷ [])) in
    record {
      rest = d.rest;
      tree = Or d.tree s.tree;
      place = d.place;
      shows = (front.node, part.node, subst (λ (y : ℕ). IsNode b n (kinds.Alt front.node part.node) y) d.place here, seq_more d.tree a b at front.node _ k d.shows, subst (λ (y : ℕ). ShowsTerm s.tree b at part.node y) j (term_more s.tree a b at part.node _ k s.shows));
      below = constructs_more a b at base new d.rest k d.below;
      same = ap (λ (x : List Entry). Some (take_branches x s.tree)) (sym d.is) ∙ s.same;
    }

pub no_ended : (a : Made) (at : ℕ → ℕ) (base : ℕ) (fs : List TermConstruct) (es : List Entry) (t : Term) → ((x : Shown) (gs : List TermConstruct) → fs ≡ constructs.Ended x ∷ gs → ⊥) → ConstructsShow a at base fs es → take_branches es t ≡ (t, es)
unfolding ConstructsShow take_branches
no_ended a at base fs [] t n h = refl
no_ended a at base fs (Mark ∷ es) t n h = refl
no_ended a at base fs (Done q ∷ es) t n h = refl
no_ended a at base fs (Muted ∷ es) t n h = refl
no_ended a at base fs (Storing r ∷ es) t n h = refl
no_ended a at base (constructs.Ended x ∷ fs) (Ended s ∷ es) t n h = absurd (n x fs refl)
no_ended a at base _ (Ended s ∷ es) t n h = absurd h

pub term_done : (a : Made) (at : ℕ → ℕ) (base : ℕ) (old fs : List TermConstruct) (part : Shown) (o : Option (Term × List Entry)) → fs ≡ old → ((x : Shown) (gs : List TermConstruct) → old ≡ constructs.Ended x ∷ gs → ⊥) → TermSoFar a at base old part o → TermTaken a at base fs (Some part) o
term_done a at base old fs part o e n s =
    let d = no_ended a at base old s.rest s.tree n s.below in
    subst (λ (x : Option (Term × List Entry)). TermTaken a at base fs (Some part) x) (sym (ap (λ (x : Term × List Entry). Some x) d) ∙ s.same)
    (record { place = s.place; shows = s.shows; below = subst (λ (x : List TermConstruct). ConstructsShow a at base x s.rest) (sym e) s.below })

pub term_none : (a : Made) (at : ℕ → ℕ) (base : ℕ) (fs : List TermConstruct) (es : List Entry) → SeqTaken a at base fs None (take_seq es) → TermTaken a at base fs None (take_term es)
unfolding take_term term_of
term_none a at base fs es h = go (take_seq es) h
  where
    go : (o : Option (Seq × List Entry)) → SeqTaken a at base fs None o → TermTaken a at base fs None (term_of o)
    go None h = tt
    go (Some t) h = absurd h

pub ended_within : (a : Made) (at : ℕ → ℕ) (base : ℕ) (old new : List TermConstruct) (front part : Shown) (o : Option (Term × List Entry)) → old ≡ constructs.Ended front ∷ new → TermSoFar a at base old part o → (front.node < length a.nodes) × (part.node < length a.nodes)
ended_within a at base old new front part o e s =
    let d = ended_on a at base front new s.rest (subst (λ (x : List TermConstruct). ConstructsShow a at base x s.rest) e s.below) in
    (seq_within d.tree a at front.node _ d.shows, term_within s.tree a at part.node _ s.shows)
