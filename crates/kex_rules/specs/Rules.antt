-- The rules on names and on calls that a program has to keep, and when each is broken.
use Rattle.std.specs.Prelude.{◌≡◌, ℕ, ◌<◌, ◌⊎◌, List, [], ◌∷◌}
use Rattle.kex_code.specs.Codes.{IsAmong, HasNumber}
use Rattle.kex_model.specs.declared.program.Kind.{Kind}
use Rattle.kex_model.specs.declared.program.Kind.TheVariants.{Call, Seq, Alt, Rep, Mute, At}
use Rattle.kex_model.specs.declared.program.Node.{Node}
use Rattle.kex_model.specs.declared.program.Definition.{Definition}
use Rattle.kex_model.specs.declared.program.Start.{Start}
use Rattle.kex_model.specs.Programs.{Grammar}
use Rattle.kex_model.specs.Trees.{kind_at, root_of}
use Rattle.kex_rules.specs.declared.refusal.RuleRefusal.{RuleRefusal}
use Rattle.kex_rules.specs.declared.refusal.RuleRefusal.TheVariants.{TwiceDefined, Unknown, NoStart}
use Rattle.kex_rules.specs.declared.refusal.RuleRefusal.TheVariants.{NotTail, Memory}

-- some definition is of the name
abbrev pub IsDefined : List Definition → ℕ → Type 0
IsDefined definitions name = (d : Definition) × IsAmong definitions d × (d.name ≡ name)

-- at this offset a name is defined that was defined before
abbrev pub IsTwice : List Definition → ℕ → Type 0
IsTwice definitions at = (i j : ℕ) × (d e : Definition) × (i < j) × HasNumber definitions d i
    × HasNumber definitions e j × (d.name ≡ e.name) × (e.at ≡ at)

-- node n is a call of the name, at this offset
abbrev pub IsCall : Grammar → ℕ → ℕ → ℕ → Type 0
IsCall P n name at = (m : Node) × HasNumber P.nodes m n × (m.kind ≡ Call name) × (m.at ≡ at)

-- one of the stages is started by the name, at this offset
abbrev pub StartsAt : List Start → ℕ → ℕ → Type 0
StartsAt stages name at = (s : Start) × IsAmong stages s × (s.name ≡ name) × (s.at ≡ at)

-- in tail position, or anywhere else
pub data TermPosition : Type 0 where
  in_tail : TermPosition
  elsewhere : TermPosition

-- the parts of a node that end where it ends
abbrev pub last_parts : Kind → List ℕ
last_parts (Seq l r) = r ∷ []
last_parts (Alt l r) = l ∷ r ∷ []
last_parts _ = []

-- its other parts
abbrev pub other_parts : Kind → List ℕ
other_parts (Seq l r) = l ∷ []
other_parts (Rep body min max lazy) = body ∷ []
other_parts (Mute t) = t ∷ []
other_parts (At r t) = t ∷ []
other_parts _ = []

-- a node is in the term of a root, in this position
pub data StandsIn (P : Grammar) (root : ℕ) : TermPosition → ℕ → Type 0 where
  at_root : StandsIn P root in_tail root
  as_last : {p : TermPosition} {n m : ℕ} → StandsIn P root p n
      → IsAmong (last_parts (kind_at P n)) m → StandsIn P root p m
  as_other : {p : TermPosition} {n m : ℕ} → StandsIn P root p n
      → IsAmong (other_parts (kind_at P n)) m → StandsIn P root elsewhere m

-- the node is in one of the definitions
abbrev pub IsWithin : Grammar → ℕ → Type 0
IsWithin P n = (d : Definition) × (p : TermPosition) × IsAmong P.definitions d
    × StandsIn P d.root p n

-- a definition calls the name, at this offset
abbrev pub CallsAt : Grammar → ℕ → ℕ → Type 0
CallsAt P name at = (n : ℕ) × IsWithin P n × IsCall P n name at

-- the name is called or started at this offset
abbrev pub IsUse : Grammar → ℕ → ℕ → Type 0
IsUse P name at = CallsAt P name at ⊎ StartsAt P.stages name at

-- at this offset a name is used that has no definition
abbrev pub IsUnknown : Grammar → ℕ → Type 0
IsUnknown P at = (name : ℕ) × IsUse P name at × (IsDefined P.definitions name → ⊥)

-- the definition of a name calls another, in any position
abbrev pub Calls : Grammar → ℕ → ℕ → Type 0
Calls P caller callee = IsDefined P.definitions caller × (p : TermPosition) × (n : ℕ)
    × StandsIn P (root_of P caller) p n × (kind_at P n ≡ Call callee)

-- one name is the other, or reaches it by calls
pub data ReachesByCalls (P : Grammar) : ℕ → ℕ → Type 0 where
  itself : {name : ℕ} → ReachesByCalls P name name
  by_call : {caller callee target : ℕ} → Calls P caller callee → ReachesByCalls P callee target
      → ReachesByCalls P caller target

-- at this offset, outside tail position, a definition calls a name that reaches it
abbrev pub IsNotTail : Grammar → ℕ → Type 0
IsNotTail P at = (caller callee n : ℕ) × IsDefined P.definitions caller
    × StandsIn P (root_of P caller) elsewhere n × IsCall P n callee at
    × ReachesByCalls P callee caller

-- each name that is called, started or defined has just one definition; there is a stage; calls
-- that come back are in tail position
pub record IsRuled (P : Grammar) : Type 0 where
  pub once : (i j : ℕ) (d e : Definition) → HasNumber P.definitions d i
      → HasNumber P.definitions e j → d.name ≡ e.name → i ≡ j
  pub known : (name at : ℕ) → IsUse P name at → IsDefined P.definitions name
  pub begins : (s : Start) × IsAmong P.stages s
  pub tail : (at : ℕ) → IsNotTail P at → ⊥

-- no offset breaks the rule
abbrev pub Nowhere : (ℕ → Type 0) → Type 0
Nowhere Breaks = (at : ℕ) → Breaks at → ⊥

-- this is the lowest offset that breaks the rule
pub record IsLowest (Breaks : ℕ → Type 0) (at : ℕ) : Type 0 where
  pub breaks : Breaks at
  pub lowest : (k : ℕ) → k < at → Breaks k → ⊥

-- why a program is refused: no rule before this one is broken
abbrev pub IsRuleCause : Grammar → RuleRefusal → Type 0
IsRuleCause P (TwiceDefined at) = IsLowest (IsTwice P.definitions) at
IsRuleCause P (Unknown at) = Nowhere (IsTwice P.definitions) × IsLowest (IsUnknown P) at
IsRuleCause P NoStart = Nowhere (IsTwice P.definitions) × Nowhere (IsUnknown P) × (P.stages ≡ [])
IsRuleCause P (NotTail at) = Nowhere (IsTwice P.definitions) × Nowhere (IsUnknown P)
    × (P.stages ≡ [] → ⊥) × IsLowest (IsNotTail P) at
IsRuleCause P Memory = Unit {0}
