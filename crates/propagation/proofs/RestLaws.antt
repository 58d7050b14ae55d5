-- A clause with no literal that fails anew stays settled, and so needs no look.
-- Assumes nothing.
use Prim.Native.Nat.{ℕ, ◌≤◌, ◌<◌, ◌^◌}
use mathlib.Core.Path.{◌≡◌, refl, sym, ap, subst}
use mathlib.Core.Bool.{Bool, true, false, not, true≢false}
use mathlib.Core.Logic.{◌⊎◌, inl, inr}
use mathlib.Core.List.{List}
use native.Mathlib.Omega.{arith}
use native.Mathlib.Decide.{dec_lt}
use native.Mathlib.Nat.{le_refl}
use lib.Bits.{bit_and}
use Rattle.task.specs.Facts.{without}
use Rattle.task.specs.Inner.{bit}
use Rattle.task.proofs.Bits.{bit_le, bit_none, bit_and_lem, bit_without}
use Rattle.meaning.specs.declared.Clause.{Clause}
use Rattle.propagation.specs.declared.Assignment.{Assignment}
use Rattle.propagation.specs.declared.Effect.{Effect}
use Rattle.propagation.specs.Clauses.{met_by, pulled_by, Only, Below, OfWords}
use Rattle.propagation.specs.Propagation.{mask, failing, Held, Wide, Quiet, Going, Grown, Looked, PassedTo, Spared, Untouched, Based, since}
use Rattle.std.specs.Prelude.{Option, Some, None}
use Rattle.certificate.specs.declared.Span.{Span}
use Rattle.words.specs.declared.Masks.{Masks}
use Rattle.words.specs.Words.{words_at, Misses, MissedAt}
use Rattle.propagation.proofs.OneFact.{bit_same}
use Rattle.propagation.proofs.PassLaws.{going_none, stays, quiet_any, looked_longer, passed_past}

-- ---- what the test tells

spared_by : (s : Bool) (b x : Assignment) (c : Clause) → bit_and (mask s c) (without (failing s x) (failing s b)) ≡ 0 → Spared s b x c
spared_by s b x c e f h t =
    elim (dec_lt (bit f (failing s b)) 1) [
      | yes l ↦
          let m = without (failing s x) (failing s b) in
          absurd (omega (arith, bit_none f, ap (bit f) e, bit_and_lem f (mask s c) m, bit_without f (failing s x) (failing s b)))
      | no l ↦ omega (arith, bit_le f (failing s b))
    ]

missed_untouched : {two : Bool} (b x : Assignment) (c : Clause) → Misses (since two b x) c → Untouched two b x c
unfolding since
missed_untouched b x c m = ((λ t. spared_by true b x c (m.0 t)), spared_by false b x c m.1)

-- ---- what stays settled

-- a clause that every state meets is always settled
always : (x : Assignment) → Held x (record { positive = 1; negative = 1 }) ⊎ Wide x (record { positive = 1; negative = 1 })
always x =
    elim (dec_lt (bit 0 x.on) 1) [
      | yes l ↦ elim (dec_lt (bit 0 x.off) 1) [
        | yes m ↦ inr (record {
          fits = λ b. fits b;
          side₁ = true;
          fact₁ = 0;
          side₂ = false;
          fact₂ = 0;
          differ = λ e. absurd (true≢false e);
          has₁ = bit_same 0;
          has₂ = bit_same 0;
          open₁ = omega arith;
          open₂ = omega arith;
        })
        | no m ↦ inl (record { side = false; fact = 0; has = bit_same 0; holds = omega (arith, bit_le 0 x.off) })
      ]
      | no l ↦ inl (record { side = true; fact = 0; has = bit_same 0; holds = omega (arith, bit_le 0 x.on) })
    ]
  where
    fits : (b : Bool) → mask b (record { positive = 1; negative = 1 }) < 2 ^ 64
    fits true = omega arith
    fits false = omega arith

-- what the action leaves of a clause has no other literals
pulled_stays : (two : Bool) (k : Effect) (b x : Assignment) (w : Clause) → Grown b x → Untouched two b x w → Quiet two b (pulled_by k w)
    → Quiet two x (pulled_by k w)
unfolding pulled_by
pulled_stays two k b x w g u = go (met_by k w)
  where
    less : Clause
    less = record { positive = without w.positive k.changed; negative = without w.negative k.changed }

    fewer : (s : Bool) → Spared s b x w → Spared s b x less
    fewer true v f h t = v f (omega (arith, bit_without f w.positive k.changed, bit_le f w.positive)) t
    fewer false v f h t = v f (omega (arith, bit_without f w.negative k.changed, bit_le f w.negative)) t

    go : (m : Bool) → Quiet two b (elim m [ true ↦ record { positive = 1; negative = 1 } | false ↦ less ])
        → Quiet two x (elim m [ true ↦ record { positive = 1; negative = 1 } | false ↦ less ])
    go true h = quiet_any two (always x)
    go false h = stays b x less two g ((λ e. fewer true (u.0 e)), fewer false u.1) h

-- a clause that is not looked at
passed_rest : {two : Bool} (k : Effect) (b x : Assignment) (w : Clause) → Untouched two b x w → Looked two b x (pulled_by k w)
    → PassedTo two (Only (pulled_by k w)) x x
passed_rest {two} k b x w u l =
    record {
      goes = going_none _ x;
      looked = λ d q.
          record {
            seen = x;
            after = λ s f. le_refl _;
            until = λ s f. le_refl _;
            settled = subst (Quiet two x) (sym q)
                (pulled_stays two k l.seen x w l.until ((λ e. since true (u.0 e)), since false u.1) l.settled);
          };
    }
  where
    since : (s : Bool) → Spared s b x w → Spared s l.seen x w
    since s v f h t = omega (arith, v f h t, l.after (not s) f, bit_le f (failing s l.seen))

-- ---- what looks may rest on

-- x may grow, and there may be fewer clauses
pub based_on : (two : Bool) {P Q : Clause → Type 0} (base : Option Assignment) {S : ℕ → Type 0} {x y : Assignment}
    → ((c : Clause) → Q c → P c) → Based two P base x → Going S x y → Based two Q base y
based_on two None to r g = tt
based_on two (Some b) to r g = λ c q. looked_longer (λ s f. le_refl _) g.grows (r c (to c q))

-- clauses that miss what came to fail since the base need no look
pub passed_missed : {two : Bool} (bytes : List ℕ) (s : Span) (by : Effect) (b x y : Assignment) (i k : ℕ) {m : Masks}
    → Based two (Below (OfWords bytes s.at by) s.count) (Some b) x → i ≤ k → k ≤ s.count → m ≡ since two b y → MissedAt bytes s.at m i k
    → PassedTo two (Below (OfWords bytes s.at by) i) x y → PassedTo two (Below (OfWords bytes s.at by) k) x y
passed_missed {two} bytes s by b x y i k r l h e m u =
    passed_past (OfWords bytes s.at by) i k l u (λ j g n.
    passed_rest by b y (words_at bytes s.at j) (missed_untouched b y (words_at bytes s.at j) (rw e at (m j g n)))
    (based_on two {Q = OfWords bytes s.at by j} (Some b) (λ d q. (j, omega arith, q)) r u.goes _ refl))
