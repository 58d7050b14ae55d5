-- A file whose rule bytes are rewritten: its entries stay and so does what its steps say, so a step is checked there as in the plain
-- file; and numbers that stand for the same rules give the same reply.
-- Assumes nothing.
use mathlib.Core.Path.{◌≡◌, refl, sym, ap, ◌∙◌}
use mathlib.Core.Option.{Option}
use Prim.Native.Nat.{ℕ, zero, suc, ◌-◌, ◌<◌}
use native.Mathlib.Nat.{not-suc-le-zero, le_of_suc-le-suc}
use mathlib.Core.List.{List, [], ◌∷◌, map}
use lib.ListN.{length, get_or}
use lib.Dec.{eqb}
use Rattle.meaning.specs.Result.{◌>>=◌, need, known}
use Rattle.meaning.specs.File.{Step, File, step_at}
use Rattle.meaning.specs.Rules.{◌⊢◌}
use Rattle.meaning.specs.Match.{match_step}
use Rattle.meaning.specs.Step.{Check, statement, derivation, judgement_kind, premise_count, rule_at, well_formed, check_by, check_step}
use Rattle.meaning.specs.Reply.{check_steps, check_from, check_file}
use Rattle.meaning.specs.Numbering.{with_rule, rewritten}
use Rattle.meaning.proofs.Results.{bind_same}
use Rattle.meaning.proofs.AlikeSteps.{all_same, step_checked, steps_checked}

module _ (g : ℕ → ℕ) where
  abbrev renamed : Step → Step
  renamed s = with_rule (g s.rule) s

  -- but for its rule a step stays
  stays : (d : Step) (xs : List Step) (k : ℕ) → with_rule 0 (get_or (map renamed xs) k d) ≡ with_rule 0 (get_or xs k d)
  stays d [] k = refl
  stays d (x ∷ xs) zero = refl
  stays d (x ∷ xs) (suc k) = stays d xs k

  at : (d : Step) (xs : List Step) (k : ℕ) → k < length xs → get_or (map renamed xs) k d ≡ renamed (get_or xs k d)
  at d [] k l = absurd (not-suc-le-zero l)
  at d (x ∷ xs) zero l = refl
  at d (x ∷ xs) (suc k) l = at d xs k (le_of_suc-le-suc l)

  pub count_stays : (xs : List Step) → length (map renamed xs) ≡ length xs
  count_stays [] = refl
  count_stays (x ∷ xs) = ap suc (count_stays xs)

  module _ (f : File) where
    pub step_stays : (k : ℕ) → with_rule 0 (step_at (rewritten g f) k) ≡ with_rule 0 (step_at f k)
    unfolding step_at rewritten
    step_stays k = stays _ f.steps k

    pub step_renamed : (k : ℕ) → k < length f.steps → step_at (rewritten g f) k ≡ with_rule (g (step_at f k).rule) (step_at f k)
    unfolding step_at rewritten
    step_renamed k l = at _ f.steps k l

    -- a step is checked as in the plain file
    pub checked_same : (i : ℕ) (s : Step) → check_step (rewritten g f) i s ≡ check_step f i s
    unfolding rewritten
    checked_same = step_checked f.version f f.state_sets (map renamed f.steps) (all_same f.state_sets) step_stays

    all_checked_same : (i : ℕ) (ss : List Step) → check_steps (rewritten g f) i ss ≡ check_steps f i ss
    unfolding rewritten
    all_checked_same = steps_checked f.version f f.state_sets (map renamed f.steps) (all_same f.state_sets) step_stays

-- ---- numbers that stand for the same rules

module _ (f : File) where
  -- a step's rule number counts for its rule alone
  by_rule_lem : (i : ℕ) (s : Step) (a b : ℕ) → rule_at f a ≡ rule_at f b → check_step f i (with_rule a s) ≡ check_step f i (with_rule b s)
  unfolding check_step check_by well_formed match_step
  by_rule_lem i s a b e = bind_same (ap (λ (o : Option Check). known o 8 i) e) go
    where
      go : (r : Check)
          → (need (well_formed f i (with_rule a s) (judgement_kind r) (premise_count r)) 8 i >>= (λ _. check_by f i (with_rule a s) r))
          ≡ (need (well_formed f i (with_rule b s) (judgement_kind r) (premise_count r)) 8 i >>= (λ _. check_by f i (with_rule b s) r))
      go (statement x) = refl
      go (derivation (ps ⊢ c)) = refl

  module _ (g h : ℕ → ℕ) (e : (x : ℕ) → rule_at f (g x) ≡ rule_at f (h x)) where
    all_alike : (i : ℕ) (ss : List Step) → check_steps f i (map (renamed g) ss) ≡ check_steps f i (map (renamed h) ss)
    unfolding check_steps
    all_alike i [] = refl
    all_alike i (s ∷ ss) = bind_same (by_rule_lem i s (g s.rule) (h s.rule) (e s.rule)) (λ _. all_alike (suc i) ss)

    steps_alike : check_steps (rewritten g f) 0 (rewritten g f).steps ≡ check_steps (rewritten h f) 0 (rewritten h f).steps
    unfolding rewritten
    steps_alike =
        all_checked_same g f 0 (map (renamed g) f.steps) ∙ all_alike 0 f.steps
        ∙ sym (all_checked_same h f 0 (map (renamed h) f.steps))

    last_alike : (n : ℕ) → (step_at (rewritten g f) n).kind ≡ (step_at (rewritten h f) n).kind
    last_alike n = ap (λ (s : Step). s.kind) (step_stays g f n ∙ sym (step_stays h f n))

    count_alike : length (rewritten g f).steps ≡ length (rewritten h f).steps
    unfolding rewritten
    count_alike = count_stays g f.steps ∙ sym (count_stays h f.steps)

    pub files_alike : check_file (rewritten g f) ≡ check_file (rewritten h f)
    unfolding check_file check_from
    files_alike =
        bind_same steps_alike
        (λ _. ap (λ (n : ℕ). need (eqb (step_at (rewritten g f) (n - 1)).kind 3) 12 (n - 1)) count_alike
        ∙ ap (λ (k : ℕ). need (eqb k 3) 12 (length (rewritten h f).steps - 1)) (last_alike (length (rewritten h f).steps - 1)))

-- ---- rewriting as such

module _ (f : File) where
  abbrev with_steps : List Step → File
  with_steps ks = record { version = f.version; task = f.task; action_sets = f.action_sets; state_sets = f.state_sets; steps = ks }

  -- each byte as itself
  pub rewritten_same : (g : ℕ → ℕ) → ((x : ℕ) → g x ≡ x) → rewritten g f ≡ f
  unfolding rewritten
  rewritten_same g e = ap with_steps (go f.steps)
    where
      go : (ks : List Step) → map (renamed g) ks ≡ ks
      go [] = refl
      go (k ∷ ks) = ap (λ (r : ℕ). with_rule r k ∷ map (renamed g) ks) (e k.rule) ∙ ap (λ (l : List Step). k ∷ l) (go ks)

  -- and once more
  pub rewritten_twice : (g h : ℕ → ℕ) → rewritten h (rewritten g f) ≡ rewritten (λ x. h (g x)) f
  unfolding rewritten
  rewritten_twice g h = ap with_steps (go f.steps)
    where
      go : (ks : List Step) → map (renamed h) (map (renamed g) ks) ≡ map (renamed (λ x. h (g x))) ks
      go [] = refl
      go (k ∷ ks) = ap (λ (l : List Step). renamed (λ x. h (g x)) k ∷ l) (go ks)
