-- Looks at clauses put together: one after the other, up to a conflict, and again until nothing changes.
-- Assumes nothing.
use Prim.Native.Nat.{ℕ, ◌+◌, ◌≤◌, ◌<◌}
use mathlib.Core.Path.{◌≡◌, refl, sym, ap, subst, ◌∙◌}
use mathlib.Core.Bool.{Bool, true, false, not, ◌&&◌, ◌||◌, true≢false}
use mathlib.Core.Logic.{inl, inr}
use native.Mathlib.Omega.{arith}
use native.Mathlib.Decide.{dec_lt}
use native.Mathlib.Nat.{le_refl, le_trans}
use lib.Bits.{bit_or, or_add_and, and_le_r}
use lib.Dec.{T, eqb, eqb→eq}
use Rattle.task.proofs.Tests.{and_left, and_right, and_both, implied, holds, is_true, same}
use Rattle.task.specs.Inner.{bit}
use Rattle.task.proofs.Bits.{bit_le, bit_high, bit_or_lem, same_bits}
use Rattle.std.specs.Prelude.{Option, Some, None}
use Rattle.meaning.specs.declared.Clause.{Clause}
use Rattle.propagation.specs.declared.Assignment.{Assignment}
use Rattle.propagation.specs.Clauses.{Below}
use Rattle.propagation.specs.Propagation.{mask, holding, failing, Meets, Held, Wide, Waiting, OneHead, Quiet}
use Rattle.propagation.specs.Propagation.{Settled, Alike, Spared, Untouched, Tells, Going, NoneIn, Grown, Looked, PassedTo, Passed, SolvedTo, Solved, SolvedFrom}

-- ---- what goes on

pub going_none : (S : ℕ → Type 0) (x : Assignment) → Going S x x
going_none S x = record { sound = λ s m g. g; grows = λ b f. le_refl _; apart = λ a. a }

-- one after the other, over the states that both keep
pub going_more : {S S' S'' : ℕ → Type 0} {x y r : Assignment} → ((s : ℕ) → S'' s → S s × S' s) → Going S x y → Going S' y r → Going S'' x r
going_more h u v =
    record {
      sound = λ s m g. v.sound s (h s m).1 (u.sound s (h s m).0 g);
      grows = λ b f. le_trans (u.grows b f) (v.grows b f);
      apart = λ a. v.apart (u.apart a);
    }

-- over fewer states
pub going_under : {S S' : ℕ → Type 0} {x r : Assignment} → ((s : ℕ) → S' s → S s) → Going S x r → Going S' x r
going_under h u = record { sound = λ s m g. u.sound s (h s m) g; grows = u.grows; apart = u.apart }

-- ---- settled clauses stay so

module _ (b x : Assignment) (c : Clause) where
  held_on : Grown b x → Held b c → Held x c
  held_on g t =
      record {
        side = t.side;
        fact = t.fact;
        has = t.has;
        holds = omega (arith, t.holds, g t.side t.fact, bit_le t.fact (holding t.side x));
      }

  -- a literal that is not known to fail, where none of its side comes to fail
  still_open : (s : Bool) → Spared s b x c → (f : ℕ) → bit f (mask s c) ≡ 1 → bit f (failing s b) ≡ 0 → bit f (failing s x) ≡ 0
  still_open s u f h o =
      elim (dec_lt (bit f (failing s x)) 1) [
        | yes l ↦ omega arith
        | no l ↦ absurd (omega (arith, o, u f h (omega (arith, bit_le f (failing s x)))))
      ]

  wide_on : ((s : Bool) → Spared s b x c) → Wide b c → Wide x c
  wide_on u t =
      record {
        fits = t.fits;
        side₁ = t.side₁;
        fact₁ = t.fact₁;
        side₂ = t.side₂;
        fact₂ = t.fact₂;
        differ = t.differ;
        has₁ = t.has₁;
        has₂ = t.has₂;
        open₁ = still_open t.side₁ (u t.side₁) t.fact₁ t.has₁ t.open₁;
        open₂ = still_open t.side₂ (u t.side₂) t.fact₂ t.has₂ t.open₂;
      }

  -- a clause with no literal that fails anew; of a Horn clause, none of the body
  pub stays : (two : Bool) → Grown b x → Untouched two b x c → Quiet two b c → Quiet two x c
  stays true g u (inl t) = inl (held_on g t)
  stays true g u (inr t) = inr (wide_on each t)
    where
      each : (s : Bool) → Spared s b x c
      each true = u.0 refl
      each false = u.1
  stays false g u h =
      λ k. elim (h k) [
        | inl t ↦ inl (held_on g t)
        | inr t ↦ inr (record { fact = t.fact; has = t.has; not_on = still_open false u.1 t.fact t.has t.not_on })
      ]

-- where the assignments say the same, and the later one no less
pub alike : (two : Bool) (x r : Assignment) {P : Clause → Type 0} → Alike two x r → Grown x r → Settled two P x → Settled two P r
alike two x r e g h c p = stays x r c two g ((λ t f _ o. ap (bit f) (e.1 t) ∙ o), (λ f _ o. ap (bit f) e.0 ∙ o)) (h c p)

-- of two open literals of a Horn clause one is in the body: what is settled for clauses in general is settled for Horn clauses
waits : {x : Assignment} {c : Clause} → OneHead c → Wide x c → Waiting x c
waits {x} {c} h w = by w.side₁ w.side₂ w.fact₁ w.fact₂ w.differ w.has₁ w.has₂ w.open₁ w.open₂
  where
    low : (f : ℕ) → bit f c.positive ≡ 1 → f < 64
    low f e = elim (dec_lt f 64) [ yes l ↦ l | no l ↦ absurd (omega (arith, bit_high 64 f c.positive (w.fits true) (omega arith))) ]

    by : (a b : Bool) (f g : ℕ) → (a ≡ b → f ≡ g → ⊥) → bit f (mask a c) ≡ 1 → bit g (mask b c) ≡ 1 → bit f (failing a x) ≡ 0
        → bit g (failing b x) ≡ 0 → Waiting x c
    by true true f g d u v y z = absurd (d refl (h f g (low f u) (low g v) u v))
    by true false f g d u v y z = record { fact = g; has = v; not_on = z }
    by false b f g d u v y z = record { fact = f; has = u; not_on = y }

pub quiet_any : (two : Bool) {x : Assignment} {c : Clause} → Quiet true x c → Quiet two x c
quiet_any true q = q
quiet_any false q = λ h. elim q [ inl t ↦ inl t | inr w ↦ inr (waits h w) ]

-- ---- what was looked at

-- over a longer time
pub looked_longer : {two : Bool} {a b x y : Assignment} {c : Clause} → Grown a b → Grown x y → Looked two b x c → Looked two a y c
looked_longer g h l =
    record {
      seen = l.seen;
      after = λ s f. le_trans (g s f) (l.after s f);
      until = λ s f. le_trans (l.until s f) (h s f);
      settled = l.settled;
    }

-- it is settled now where nothing changed since
looked_settled : {two : Bool} {x r : Assignment} {c : Clause} → Alike two x r → Looked two x r c → Quiet two r c
looked_settled {two} {x} {r} {c} e l =
    stays l.seen r c two l.until
    ((λ t f _ o. since false f (ap (bit f) (e.1 t)) o), (λ f _ o. since true f (ap (bit f) e.0) o)) l.settled
  where
    since : (b : Bool) (f : ℕ) → bit f (holding b x) ≡ bit f (holding b r) → bit f (holding b r) ≡ 1 → bit f (holding b l.seen) ≡ 1
    since b f q o = omega (arith, q, o, l.after b f, bit_le f (holding b l.seen))

-- ---- one look at each

-- a look at clauses in general does for Horn clauses too
pub passed_any : (two : Bool) (P : Clause → Type 0) (x : Assignment) (r : Option Assignment) → Passed true P x r → Passed two P x r
passed_any two P x None u = u
passed_any two P x (Some y) u =
    record {
      goes = u.goes;
      looked = λ c p.
          let l = u.looked c p in
          record { seen = l.seen; after = l.after; until = l.until; settled = quiet_any two l.settled };
    }

-- no clause at all
pub passed_none : {two : Bool} (P : ℕ → Clause → Type 0) (x : Assignment) → PassedTo two (Below P 0) x x
passed_none P x = record { goes = going_none (Meets (Below P 0)) x; looked = λ c p. absurd (omega (arith, p.1)) }

-- one family of clauses more
pub passed_more : {two : Bool} (P : ℕ → Clause → Type 0) {x y r : Assignment} (i : ℕ) → PassedTo two (Below P i) x y
    → PassedTo two (P i) y r → PassedTo two (Below P (i + 1)) x r
passed_more P {x} {y} {r} i u v =
    record {
      goes = going_more {S = Meets (Below P i)} {S' = Meets (P i)}
          (λ s m. ((λ c p. m c (p.0, omega (arith, p.1), p.2)), (λ c p. m c (i, omega arith, p)))) u.goes v.goes;
      looked = λ c p. elim (dec_lt p.0 i) [
        | yes l ↦ looked_longer (λ s f. le_refl _) v.goes.grows (u.looked c (p.0, l, p.2))
        | no l ↦
            let q : p.0 ≡ i = omega (arith, p.1) in
            looked_longer u.goes.grows (λ s f. le_refl _) (v.looked c (subst (λ (k : ℕ). P k c) q p.2))
      ];
    }

-- families that need no look
pub passed_past : {two : Bool} (P : ℕ → Clause → Type 0) {x y : Assignment} (i k : ℕ) → i ≤ k → PassedTo two (Below P i) x y
    → ((j : ℕ) → i ≤ j → j < k → PassedTo two (P j) y y) → PassedTo two (Below P k) x y
passed_past P {x} {y} i k l u v =
    record {
      goes = going_under (λ s m c p. m c (p.0, omega (arith, p.1), p.2)) u.goes;
      looked = λ c p. elim (dec_lt p.0 i) [
        | yes h ↦ u.looked c (p.0, h, p.2)
        | no h ↦ looked_longer u.goes.grows (λ s f. le_refl _) ((v p.0 (omega arith) p.1).looked c p.2)
      ];
    }

-- a conflict at one family, where there are more
pub passed_early : {two : Bool} (P : ℕ → Clause → Type 0) {x y : Assignment} (i k : ℕ) → i < k → PassedTo two (Below P i) x y
    → NoneIn (Meets (P i)) y → NoneIn (Meets (Below P k)) x
passed_early P i k l u v s m g =
    v s (λ c p. m c (i, l, p)) (u.goes.sound s (λ c p. m c (p.0, omega (arith, p.1), p.2)) g)

-- ---- until nothing changes

pub solved_conflict : {P : Clause → Type 0} {x y : Assignment} → Going (Meets P) x y → NoneIn (Meets P) y → NoneIn (Meets P) x
solved_conflict u v s m g = v s m (u.sound s m g)

pub solved_fixed : {two : Bool} {P : Clause → Type 0} {x y r : Assignment} → Going (Meets P) x y → PassedTo two P y r → Alike two y r
    → SolvedTo two P x r
solved_fixed u v e = record { goes = going_more (λ s m. (m, m)) u v.goes; settled = λ c p. looked_settled e (v.looked c p) }

-- so from what is no conflict
pub solved_from : {two : Bool} {P : Clause → Type 0} {x y : Assignment} (start r : Option Assignment) → start ≡ Some x → r ≡ Some y
    → SolvedTo two P x y → SolvedFrom two P start r
solved_from {two = two} {P = P} {x = x} start r e f u =
    subst (λ (o : Option Assignment). SolvedFrom two P o r) (sym e) (subst (λ (o : Option Assignment). Solved two P x o) (sym f) u)

-- more facts, a larger number
pub grows_le : (a b : ℕ) → ((f : ℕ) → bit f a ≤ bit f b) → a ≤ b
grows_le a b h =
    let e : bit_or a b ≡ b = same_bits (bit_or a b) b (λ f. bit_or_lem f a b ∙ omega (arith, h f)) in
    omega (arith, or_add_and a b, and_le_r a b)

-- ---- whether two assignments say the same

pub alike_code : (two : Bool) (x y : Assignment) → Tells (eqb x.on y.on && (not two || eqb x.off y.off)) (Alike two x y)
alike_code two x y =
    record {
      finds = λ t. (
        eqb→eq x.on y.on (and_left (eqb x.on y.on) (not two || eqb x.off y.off) t),
        λ e. eqb→eq x.off y.off
            (implied two (eqb x.off y.off) (and_right (eqb x.on y.on) (not two || eqb x.off y.off) t) (holds e)),
      );
      sees = λ e. and_both (eqb x.on y.on) (not two || eqb x.off y.off) (same e.0)
          (unless two (eqb x.off y.off) (λ k. same (e.1 k)));
    }
  where
    unless : (b c : Bool) → (b ≡ true → T c) → T (not b || c)
    unless true c h = h refl
    unless false c h = tt

-- an assignment that says more is a larger pair of numbers
pub unlike_less : {two : Bool} {S : ℕ → Type 0} {x y : Assignment} {r : Bool} → Tells r (Alike two x y) → r ≡ false → Going S x y
    → x.on + x.off < y.on + y.off
unlike_less {two} {S} {x} {y} {r} t e u =
    let p = grows_le x.on y.on (u.grows true) in
    let q = grows_le x.off y.off (u.grows false) in
    elim (dec_lt (x.on + x.off) (y.on + y.off)) [
      | yes l ↦ l
      | no l ↦ absurd (true≢false (sym (is_true r (t.sees (omega arith, λ k. omega arith))) ∙ e))
    ]
