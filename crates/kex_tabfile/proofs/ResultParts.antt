-- Clauses on results, carried over.
use Rattle.std.proofs.Common.{◌≡◌, Option, Some, None, Result, Ok, Err, refl, sym, subst}
use Rattle.std.specs.Result.{IsErrAnd, IfErr, IfOk}
use Rattle.std.specs.Prelude.{OnOk, IfSome, IfNone, IsSome}

pub if_err : {A B : Type 0} (r : Result A B) (b : B) (Q : B → Type 0) → IsErrAnd r (λ e. e ≡ b) → Q b → IfErr r Q
if_err (Ok v) b Q is q = absurd is
if_err (Err e) b Q is q = subst Q (sym is) q

pub on_ok : {A B : Type 0} (r : Result A B) (P Q : Type 0) → (P → Q) → OnOk r P → OnOk r Q
on_ok (Ok v) P Q f h = f h
on_ok (Err e) P Q f h = tt

pub ok_as : {A B : Type 0} (r : Result A B) (P Q : A → Type 0) → ((a : A) → P a → Q a) → IfOk r P → IfOk r Q
ok_as (Ok v) P Q f h = f v h
ok_as (Err e) P Q f h = tt

pub err_as : {A B : Type 0} (r : Result A B) (P Q : B → Type 0) → ((e : B) → P e → Q e) → IfErr r P → IfErr r Q
err_as (Ok v) P Q f h = tt
err_as (Err e) P Q f h = f e h

pub if_some : {A : Type 0} (r : Option A) (Q : A → Type 0) → ((x : A) → r ≡ Some x → Q x) → IfSome r Q
if_some None Q f = tt
if_some (Some x) Q f = f x refl

pub if_none : {A : Type 0} (r : Option A) (Q : Type 0) → (r ≡ None → Q) → IfNone r Q
if_none None Q f = f refl
if_none (Some x) Q f = tt

-- what can't be none is there
pub is_there : {A : Type 0} (r : Option A) (P : Type 0) → IfNone r P → (P → ⊥) → IsSome r
is_there None P h not = absurd (not h)
is_there (Some x) P h not = refl

-- what holds of what is there
pub of_some : {A : Type 0} (r : Option A) (Q : A → Type 0) (x : A) → r ≡ Some x → IfSome r Q → Q x
of_some r Q x e h = subst (λ o. IfSome o Q) e h
