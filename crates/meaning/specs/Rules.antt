-- The rules 6 to 28, as document 01 lists them. Its <, ~, &, + and 0 are written ⊑, ∼, ∩, ∪ and O here;
-- S[A] is `prog S A` and [A]S is `regr S A`.
-- Assumes nothing.
use Rattle.std.specs.Prelude.{ℕ, List, [], ◌∷◌}

infixr 75 ◌∪◌
infixr 75 ◌∪ᴬ◌
infixr 78 ◌∩◌
infix 80 ∼◌
infix 70 ◌⊑◌
infix 70 ◌⊑ᴬ◌
infix 40 ◌⊢◌
-- action sets: a letter, all actions, a union
pub data ActionPattern : Type 0 where
  letterᴬ : ℕ → ActionPattern
  T : ActionPattern
  ◌∪ᴬ◌ : ActionPattern → ActionPattern → ActionPattern

-- state sets: a letter, the empty set, the start, the forbidden states, and the five kinds with references
pub data StatePattern : Type 0 where
  letter : ℕ → StatePattern
  O I G : StatePattern
  ∼◌ : StatePattern → StatePattern
  ◌∩◌ ◌∪◌ : StatePattern → StatePattern → StatePattern
  prog regr : StatePattern → ActionPattern → StatePattern

-- judgements of kinds 0 to 3
pub data Pattern : Type 0 where
  dead : StatePattern → Pattern
  ◌⊑◌ : StatePattern → StatePattern → Pattern
  ◌⊑ᴬ◌ : ActionPattern → ActionPattern → Pattern
  unsolvable : Pattern

-- premises and conclusion
pub data Rule : Type 0 where
  ◌⊢◌ : List Pattern → Pattern → Rule

abbrev pub S : StatePattern
S = letter 0

abbrev pub U : StatePattern
U = letter 1

abbrev pub W : StatePattern
W = letter 2

abbrev pub A : ActionPattern
A = letterᴬ 3

abbrev pub B : ActionPattern
B = letterᴬ 4

unfoldable pub rules : List Rule
rules =
    ([] ⊢ dead O)  -- 6 ED
    ∷ (dead S ∷ dead U ∷ [] ⊢ dead (S ∪ U))  -- 7 UD
    ∷ (S ⊑ U ∷ dead U ∷ [] ⊢ dead S)  -- 8 SD
    ∷ (prog S T ⊑ S ∪ U ∷ dead U ∷ dead (S ∩ G) ∷ [] ⊢ dead S)  -- 9 PG
    ∷ (prog S T ⊑ S ∪ U ∷ dead U ∷ I ⊑ S ∷ [] ⊢ dead (∼ S))  -- 10 PI
    ∷ (regr S T ⊑ S ∪ U ∷ dead U ∷ dead (∼ S ∩ G) ∷ [] ⊢ dead (∼ S))  -- 11 RG
    ∷ (regr S T ⊑ S ∪ U ∷ dead U ∷ I ⊑ ∼ S ∷ [] ⊢ dead S)  -- 12 RI
    ∷ (dead I ∷ [] ⊢ unsolvable)  -- 13 CI
    ∷ (dead G ∷ [] ⊢ unsolvable)  -- 14 CG
    ∷ ([] ⊢ S ⊑ S ∪ U)  -- 15 UR
    ∷ ([] ⊢ S ⊑ U ∪ S)  -- 16 UL
    ∷ ([] ⊢ S ∩ U ⊑ S)  -- 17 IR
    ∷ ([] ⊢ U ∩ S ⊑ S)  -- 18 IL
    ∷ ([] ⊢ (S ∪ U) ∩ W ⊑ (S ∩ W) ∪ (U ∩ W))  -- 19 DI
    ∷ (S ⊑ W ∷ U ⊑ W ∷ [] ⊢ S ∪ U ⊑ W)  -- 20 SU
    ∷ (S ⊑ U ∷ S ⊑ W ∷ [] ⊢ S ⊑ U ∩ W)  -- 21 SI
    ∷ (S ⊑ U ∷ U ⊑ W ∷ [] ⊢ S ⊑ W)  -- 22 ST
    ∷ (prog S A ⊑ U ∷ B ⊑ᴬ A ∷ [] ⊢ prog S B ⊑ U)  -- 23 AT
    ∷ (prog S A ⊑ U ∷ prog S B ⊑ U ∷ [] ⊢ prog S (A ∪ᴬ B) ⊑ U)  -- 24 AU
    ∷ (prog S A ⊑ W ∷ U ⊑ S ∷ [] ⊢ prog U A ⊑ W)  -- 25 PT
    ∷ (prog S A ⊑ W ∷ prog U A ⊑ W ∷ [] ⊢ prog (S ∪ U) A ⊑ W)  -- 26 PU
    ∷ (prog S A ⊑ U ∷ [] ⊢ regr (∼ U) A ⊑ ∼ S)  -- 27 PR
    ∷ (regr S A ⊑ U ∷ [] ⊢ prog (∼ U) A ⊑ ∼ S)  -- 28 RP
    ∷ []

-- a pattern's judgement kind
unfoldable pub pattern_kind : Pattern → ℕ
pattern_kind (dead p) = 0
pattern_kind (p ⊑ q) = 1
pattern_kind (p ⊑ᴬ q) = 2
pattern_kind unsolvable = 3
