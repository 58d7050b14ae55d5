-- Trying each action: after i actions none of them leads into the set, or one does.
-- Assumes nothing.
use mathlib.Core.Path.{◌≡◌, refl, sym, ap, subst, ◌∙◌}
use Prim.Native.Nat.{ℕ, ◌+◌, ◌<◌}
use native.Mathlib.Numerals.{add-one}
use mathlib.Core.Bool.{Bool, true, false, ◌&&◌}
use mathlib.Core.List.{List}
use lib.ListN.{length}
use Rattle.task.specs.declared.Action.{Action}
use Rattle.task.specs.Task.{Task, action_at, applies, after}
use Rattle.task.proofs.Tests.{holds, is_true}
use Rattle.meaning.specs.Sets.{some_below, some_action, regressed}
use Rattle.actions.specs.Marks.{marked, Marks}
use Rattle.meaning.proofs.Below.{some_of}

module _ (t : Task) (states chosen : ℕ → Bool) (s : ℕ) where
  -- action i is chosen, applies and leads into the set
  unfoldable pub leads : ℕ → Bool
  leads i = chosen i && applies (action_at t i) s && states (after (action_at t i) s)

  -- none of the first i actions does
  unfoldable pub NoneOf : ℕ → Type 0
  NoneOf i = some_below i leads ≡ false

  pub none_first : NoneOf 0
  unfolding NoneOf some_below
  none_first = refl

  pub none_more : (i : ℕ) → NoneOf i → leads i ≡ false → NoneOf (i + 1)
  unfolding NoneOf some_below
  none_more i h n = rw (add-one i) (ap (λ (b : Bool). elim b [ true ↦ true | false ↦ some_below i leads ]) n ∙ h)

  pub none_leads : (n : ℕ) → n ≡ length t.actions → NoneOf n → false ≡ regressed t states chosen s
  unfolding NoneOf leads regressed some_action
  none_leads n e h = sym (rw e at h)

  pub one_leads : (i n : ℕ) → n ≡ length t.actions → i < n → leads i ≡ true → true ≡ regressed t states chosen s
  unfolding leads regressed some_action
  one_leads i n e l h = sym (is_true _ (some_of (length t.actions) leads i (subst (λ (m : ℕ). i < m) e l) (holds h)))

  -- what the code learns of action i: by its mark, by whether it applies, and by where it leads
  pub record Tried (i : ℕ) (x : Action) (b : Bool) : Type 0 where
    pub unmarked : b ≡ false → leads i ≡ false
    pub unmet : b ≡ true → (c : Bool) → c ≡ applies x s → c ≡ false → leads i ≡ false
    pub led : b ≡ true → (c : Bool) → c ≡ applies x s → c ≡ true → (u : ℕ) (d : Bool) → u ≡ after x s → d ≡ states u → leads i ≡ d

  pub tried : (marks : List ℕ) → Marks marks chosen → (i : ℕ) → i < 256 → (x : Action) → x ≡ action_at t i
      → (b : Bool) → b ≡ marked marks i → Tried i x b
  unfolding leads
  tried marks m i l x q b p =
      let h : leads i ≡ (b && applies x s && states (after x s)) = rw (p, m i l, q) refl in
      record {
        unmarked = λ e. h ∙ rw e refl;
        unmet = λ e c k n. h ∙ rw (e, ← k, n) refl;
        led = λ e c k y u d f g. h ∙ rw (e, ← k, y, ← f) (sym g);
      }
