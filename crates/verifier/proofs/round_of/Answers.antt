-- `round_of` meets its contract: 17 for a count or a place out of range; else the reply to the round's own steps, and where they pass the
-- step behind them, or, at the last one, that it has ended.
-- Assumes nothing.
use mathlib.Core.Path.{◌≡◌, ◌∙◌}
use Prim.Native.Nat.{◌+◌}
use native.Mathlib.Omega.{arith}
use Rattle.meaning.specs.declared.Round.TheVariants.{GoOn}
use Rattle.certificate.proofs.KnownLaws.{placed_steps}
use Rattle.verifier.specs.Round.{or_else}
use Rattle.verifier.proofs.CheckLaws.{unlawful_round, round_goes_on, round_ends}
use Rattle.std.proofs.lemmas.Bool.{not_from_false, not_from_true}
use Rattle.verifier.proofs.round_of.Goals as goal

pub returns-then-not-is_lawful : goal.returns-then-not-is_lawful
returns-then-not-is_lawful c =
    unlawful_round _ _ _ c.is_lawful.ensures _ _ c.args.file.now.laid.placed.read (placed_steps _ _ c.args.file.now.laid.placed) (not_from_false _ c.if-not-is_lawful.true)

pub returns-then-count-steps : goal.returns-then-count-steps
returns-then-count-steps c =
    let told : c.round_by.result ≡ or_else c.check_steps-reply.result (GoOn (c.args.from + c.args.count)) =
    c.round_by.ensures in
    told
    ∙ round_goes_on _ _ _ c.is_lawful.ensures _ _ c.args.file.now.laid.placed.read (placed_steps _ _ c.args.file.now.laid.placed) (not_from_true _ c.if-not-is_lawful.false)
    (omega (arith, c.if-count-steps.true)) (c.check_steps-reply.ensures (λ x. x) c.own_numbers-rules.ensures)

pub returns-else-count-steps : goal.returns-else-count-steps
returns-else-count-steps c =
    c.round_by-else-count-steps.ensures
    ∙ round_ends _ _ _ c.is_lawful.ensures _ _ c.args.file.now.laid.placed.read (placed_steps _ _ c.args.file.now.laid.placed) (not_from_true _ c.if-not-is_lawful.false)
    (omega (arith, c.if-count-steps.false)) (c.check_from-reply.ensures (λ x. x) c.own_numbers-rules.ensures)
