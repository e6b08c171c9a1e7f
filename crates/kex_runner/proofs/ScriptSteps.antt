-- A runner that takes a step by its script.
use Rattle.std.proofs.Common.{◌≡◌, ℕ, ◌<◌, true, false, List, [], ◌++◌, Option, Some, None, length, refl, sym, ap, ap₂, subst, ◌∙◌, append_assoc}
use Rattle.kex_byteset.specs.Classes.{class_count}
use Rattle.kex_code.specs.declared.symbol.Symbol.{Symbol}
use Rattle.kex_sst.specs.declared.table.Transition.{Transition}
use Rattle.kex_sst.specs.Parts.{Change}
use Rattle.kex_sst.specs.Tables.{Transducer, transition_of}
use Rattle.kex_sst.specs.Passes.{first_pass}
use Rattle.kex_script.specs.declared.script.Entry.{Entry}
use Rattle.kex_script.specs.Scripts.{Sheet, HasUpdate, IsEntryOf, IsScriptOf, change_at, entry_at}
use Rattle.kex_runner.specs.declared.registers.Registers.{Registers}
use Rattle.kex_runner.specs.Noting.{contents, next_registers}
use Rattle.kex_runner.specs.Following.{IsRunner, Follows}
use Rattle.kex_runner.proofs.ByteSteps.{place_next}

-- the transition that an entry tells
abbrev pub told_by : Sheet → Entry → Transition
told_by s e = record { target = e.target; update = change_at s e.update }

pub record IsStep (s : Sheet) (t : Transducer) (state class : ℕ) (e : Entry) : Type 0 where
  pub at : transition_of t state class ≡ Some (told_by s e)
  pub update : HasUpdate s e e.target (change_at s e.update)

own_update : (s : Sheet) (e : Entry) (to : ℕ) (u : Change) → HasUpdate s e to u → HasUpdate s e e.target (change_at s e.update)
own_update s e to u h = subst (λ z. HasUpdate s e z (change_at s e.update)) (sym h.target) (subst (λ z. HasUpdate s e to z) (sym h.update) h)

step_from : (s : Sheet) (t : Transducer) (state class : ℕ) (e : Entry) (o : Option Transition) → transition_of t state class ≡ o → IsEntryOf s e o → e.goes ≡ true → IsStep s t state class e
step_from s t state class e None is h goes = let bad : ⊥ = false_true (sym h ∙ goes) in absurd bad
  where
    false_true : false ≡ true → ⊥
    false_true e = cc
step_from s t state class e (Some r) is h goes = record {
  at = is ∙ ap₂ (λ y z. Some (record { target = y; update = z })) (sym h.target) (sym h.update);
  update = own_update s e r.target r.update h;
}

-- the entry that is read
there : (s : Sheet) (t : Transducer) (state class : ℕ) (e : Entry) → IsScriptOf s t → class < class_count t.classes → e ≡ entry_at s state class → IsEntryOf s e (transition_of t state class)
there s t state class e h lt is = subst (λ z. IsEntryOf s z (transition_of t state class)) (sym is) (h.entries state class lt)

pub step_of : (s : Sheet) (t : Transducer) (state class : ℕ) (e : Entry) → IsScriptOf s t → class < class_count t.classes → e ≡ entry_at s state class → e.goes ≡ true → IsStep s t state class e
step_of s t state class e h lt is goes = step_from s t state class e (transition_of t state class) refl (there s t state class e h lt is) goes

pub step_at : (s : Sheet) (t : Transducer) (state class : ℕ) (e : Entry) (r : Transition) → IsScriptOf s t → class < class_count t.classes → e ≡ entry_at s state class → transition_of t state class ≡ Some r → IsStep s t state class e
step_at s t state class e r h lt is at = let k = subst (λ z. IsEntryOf s e z) at (there s t state class e h lt is) in step_of s t state class e h lt is k.goes

pub no_step : (s : Sheet) (t : Transducer) (state class : ℕ) (e : Entry) → IsScriptOf s t → class < class_count t.classes → e ≡ entry_at s state class → e.goes ≡ false → transition_of t state class ≡ None
no_step s t state class e h lt is stops = none (transition_of t state class) (there s t state class e h lt is)
  where
    true_false : true ≡ false → ⊥
    true_false e = cc

    none : (o : Option Transition) → IsEntryOf s e o → o ≡ None
    none None k = refl
    none (Some r) k = let bad : ⊥ = true_false (sym k.goes ∙ stops) in absurd bad

pub runner_next : (t : Transducer) (s : Sheet) (state class b : ℕ) (e : Entry) (r r' : Registers) → IsRunner t s state r → IsStep s t state class e → contents s r' ≡ next_registers (change_at s e.update) b (contents s r) → r'.count ≡ length (contents s r') → IsRunner t s e.target r'
runner_next t s state class b e r r' h k f n = record {
  sound = record { table = h.sound.table; place = place_next t state class (contents s r) (told_by s e) (contents s r') b h.sound.table k.at f };
  script = h.script;
  counted = n;
}

-- before the first byte
pub begins : (s : Sheet) (t : Transducer) → IsScriptOf s t → HasUpdate s s.initial s.initial.target (change_at s s.initial.update)
begins s t h = own_update s s.initial 0 t.initial h.initial

pub registers_begun : (s : Sheet) (t : Transducer) (registers none : List (List Symbol)) → IsScriptOf s t → none ≡ [] → registers ≡ next_registers (change_at s s.initial.update) 0 none → registers ≡ (first_pass t.initial).registers
registers_begun s t registers none h e f = f ∙ ap₂ (λ y z. next_registers y 0 z) h.initial.update e

-- the table goes along a piece in the same way where there is code in front
pub follows_behind : (t : Transducer) (state : ℕ) (registers : List (List Symbol)) (piece : List ℕ) (count state' : ℕ) (registers' : List (List Symbol)) (c before after : List Symbol) → Follows t state registers piece count state' registers' before after → Follows t state registers piece count state' registers' (c ++ before) (c ++ after)
follows_behind t state registers piece count state' registers' c before after f = record {
  within = f.within;
  more = f.more;
  code = ap (λ z. c ++ z) f.code ∙ sym (append_assoc c before f.more);
  goes = f.goes;
  stops = f.stops;
}
