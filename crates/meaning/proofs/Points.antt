-- The statements of specs/Points.antt, each proved by the file that it names.
-- Assumes nothing.
use mathlib.Core.Path.{refl}
use Rattle.meaning.specs.Bytes.{bytes_of}
use Rattle.meaning.specs.Writing.{each, write_entry, action_body, basic_body, state_body, write_action_set, write_state_set, write_step}
use Rattle.meaning.specs.Writing.{counted, write_certificate, file_of}
use Rattle.meaning.specs.Points.{VersionTwo, OlderReplies, OlderChecks, NeededBothWays, OffCases, NoGoalCases}
use Rattle.meaning.specs.Points.{VersionOne, TwinReplies, TwinChecks, TwinForm, FewUnknown, UnknownCases, LeaveCases}
use Rattle.task.proofs.Initial.{few_unknown_facts}
use Rattle.task.proofs.StricterLaws.{stricter_itself, stricter_further, stricter_safe}
use Rattle.task.proofs.Alterations.{by_alterations}
use Rattle.meaning.proofs.Reading.{reads_within}
use Rattle.meaning.proofs.Written.{reads_back}
use Rattle.meaning.proofs.RulesSound.{rules_sound}
use Rattle.meaning.specs.Certain.{certificate_of}
use Rattle.meaning.specs.Points.{SampleLength, TwelveCases, RulesSound, JudgementsTrue, ReplyJudges, AcceptedIsSafe, SafeIsAccepted}
use Rattle.meaning.specs.Points.{CertainCertificate, SampleForm, ReadsWithin, ReadsBack, WritesBack, Shortcut, RefusalNumbers}
use Rattle.meaning.specs.Points.{AnswerNumbers, ListFaults, PlainNumbers, Renumbered, RewritingIsBijective, RewrittenIsRead}
use Rattle.meaning.specs.Points.{RewrittenAlike, NumberedIsSafe, NumberedRefusals, OneRound, RunIsCheck, RunEnds, FewestRounds}
use Rattle.meaning.specs.Points.{HandsBack, RunIsSafe, RoundSays, EndsElsewhere, OutsideEntries, RoundCases, QuestionsBetween}
use Rattle.meaning.specs.Points.{OutsideFitsLetters, RoundRefusals, FullLimits, RepliesAlike, FirstBreach, SmallIsAccepted}
use Rattle.meaning.specs.Points.{SmallIsSafe, CertainLength, SmallSafeIsAccepted, SmallCertainCertificate, LimitCases}
use Rattle.meaning.specs.Points.{LimitRefusals, OrderAlike, LimitedOrderAlike, NumberedOrderAlike, RoundOrderAlike}
use Rattle.meaning.specs.Points.{NumberedJudged, LimitedJudged, RunJudged, StricterIsSafe, StricterThanSafe, StricterByAlterations}
use Rattle.meaning.specs.Points.{StricterOrder, StricterCases, RefusedIsUntrue}
use Rattle.meaning.specs.Points.{AnswerOrderAlike, FirstWrongState, NoOrderFault, OrderCases}
use Rattle.meaning.proofs.Computed.{computed}
use Rattle.meaning.proofs.Judgements.{judgements_true, reply_judges, accepted_is_safe, refused_is_untrue}
use Rattle.meaning.proofs.Certain.{certain_certificate, safe_is_accepted, certain_length, small_safe_is_accepted}
use Rattle.meaning.proofs.Certain.{small_certain_certificate}
use Rattle.meaning.proofs.Shallow.{shortcut}
use Rattle.meaning.proofs.Refusals.{refusal_numbers, numbered_refusals, round_refusals, answer_numbers}
use Rattle.meaning.proofs.Limited.{full_limits, replies_alike, first_breach, small_is_accepted, limit_refusals, limited_judged}
use Rattle.meaning.proofs.WritesBack.{writes_back}
use Rattle.meaning.proofs.Renumber.{renumbered}
use Rattle.meaning.proofs.Rewriting.{plain_numbers, rewriting_is_bijective, rewritten_is_read, rewritten_alike}
use Rattle.meaning.proofs.JudgedNumbers.{numbered_is_safe, numbered_judged}
use Rattle.meaning.proofs.Outside.{outside_fits_letters}
use Rattle.meaning.proofs.Rounds.{round_says, hands_back, one_round}
use Rattle.meaning.proofs.RelistedReads.{order_alike, limited_order_alike, numbered_order_alike, round_order_alike}
use Rattle.meaning.proofs.RelistedReads.{answer_order_alike, first_wrong_state, no_order_fault}
use Rattle.meaning.proofs.Runs.{run_is_check, run_ends, run_is_safe, fewest_rounds, questions_between, run_judged}
use Rattle.meaning.proofs.Versions.{version_one, version_two, needed_both_ways}
use Rattle.meaning.proofs.Older.{older_replies, older_checks}
use Rattle.meaning.proofs.MovedFiles.{twin_replies, twin_checks}
use Rattle.meaning.proofs.TwinForm.{twin_form}

pub the_sample_has_234_bytes : SampleLength
unfolding computed
the_sample_has_234_bytes = refl

pub the_twelve_cases_hold : TwelveCases
unfolding computed
the_twelve_cases_hold = refl

pub every_rule_is_sound : RulesSound
every_rule_is_sound = rules_sound

pub every_judgement_is_true : JudgementsTrue
every_judgement_is_true = judgements_true

pub judgements_are_true_by_the_reply : ReplyJudges
judgements_are_true_by_the_reply = reply_judges

pub an_accepted_file_is_safe : AcceptedIsSafe
an_accepted_file_is_safe = accepted_is_safe

pub a_safe_task_has_a_certificate : SafeIsAccepted
a_safe_task_has_a_certificate = safe_is_accepted

pub the_certificate_lists_what_is_within_reach : CertainCertificate
the_certificate_lists_what_is_within_reach = certain_certificate

pub the_sample_has_its_form : SampleForm
unfolding computed certificate_of each write_entry action_body basic_body state_body write_action_set write_state_set write_step counted
    write_certificate file_of bytes_of
the_sample_has_its_form = refl

pub what_is_read_is_within_the_limits : ReadsWithin
what_is_read_is_within_the_limits = reads_within

pub what_was_written_is_read_back : ReadsBack
what_was_written_is_read_back = reads_back

pub what_was_read_is_written_back : WritesBack
what_was_read_is_written_back = writes_back

pub a_question_takes_one_walk : Shortcut
a_question_takes_one_walk = shortcut

pub a_refused_file_has_its_number : RefusalNumbers
a_refused_file_has_its_number = refusal_numbers

pub a_refused_question_has_its_number : AnswerNumbers
a_refused_question_has_its_number = answer_numbers

pub a_list_is_refused_before_the_file : ListFaults
unfolding computed
a_list_is_refused_before_the_file = (refl, refl, refl, refl, refl)

pub the_list_1_to_28_changes_nothing : PlainNumbers
the_list_1_to_28_changes_nothing = plain_numbers

pub a_lawful_list_renumbers_one_to_one : Renumbered
a_lawful_list_renumbers_one_to_one = renumbered

pub rewriting_is_a_bijection : RewritingIsBijective
rewriting_is_a_bijection = rewriting_is_bijective

pub rewriting_changes_rule_bytes_alone : RewrittenIsRead
rewriting_changes_rule_bytes_alone = rewritten_is_read

pub a_rewritten_file_has_the_plain_reply : RewrittenAlike
a_rewritten_file_has_the_plain_reply = rewritten_alike

pub a_file_accepted_with_a_list_is_safe : NumberedIsSafe
a_file_accepted_with_a_list_is_safe = numbered_is_safe

pub a_refusal_with_a_list_has_its_number : NumberedRefusals
a_refusal_with_a_list_has_its_number = numbered_refusals

pub a_whole_check_is_one_round : OneRound
a_whole_check_is_one_round = one_round

pub a_run_ends_with_the_reply_of_a_check : RunIsCheck
a_run_ends_with_the_reply_of_a_check = run_is_check

pub a_run_ends_within_2048_rounds : RunEnds
a_run_ends_within_2048_rounds = run_ends

pub a_run_takes_as_few_rounds_as_cover_its_steps : FewestRounds
a_run_takes_as_few_rounds_as_cover_its_steps = fewest_rounds

pub a_round_hands_back_the_next_step : HandsBack
a_round_hands_back_the_next_step = hands_back

pub a_file_whose_run_ends_is_safe : RunIsSafe
a_file_whose_run_ends_is_safe = run_is_safe

pub a_round_says_that_its_steps_pass : RoundSays
a_round_says_that_its_steps_pass = round_says

pub a_round_says_nothing_of_earlier_steps : EndsElsewhere
unfolding computed
a_round_says_nothing_of_earlier_steps = (refl, refl)

pub a_number_outside_fits_letters_alone : OutsideFitsLetters
a_number_outside_fits_letters_alone = outside_fits_letters

pub a_premise_may_name_no_entry : OutsideEntries
unfolding computed
a_premise_may_name_no_entry = (refl, refl)

pub the_sample_is_checked_in_rounds : RoundCases
unfolding computed
the_sample_is_checked_in_rounds = (refl, refl, refl, refl, refl, refl, refl, refl, refl)

pub questions_change_nothing_in_a_run : QuestionsBetween
questions_change_nothing_in_a_run = questions_between

pub a_refused_round_has_its_number : RoundRefusals
a_refused_round_has_its_number = round_refusals

pub the_full_limits_change_nothing : FullLimits
the_full_limits_change_nothing = full_limits

pub limits_change_no_other_reply : RepliesAlike
limits_change_no_other_reply = replies_alike

pub a_breach_comes_in_the_written_order : FirstBreach
a_breach_comes_in_the_written_order = first_breach

pub what_the_small_check_accepts_is_accepted : SmallIsAccepted
what_the_small_check_accepts_is_accepted = small_is_accepted

pub a_file_that_the_small_check_accepts_is_safe : SmallIsSafe
a_file_that_the_small_check_accepts_is_safe bytes e = accepted_is_safe bytes (small_is_accepted bytes e)

pub the_certain_certificate_has_its_length : CertainLength
the_certain_certificate_has_its_length = certain_length

pub a_safe_task_has_a_small_certificate : SmallSafeIsAccepted
a_safe_task_has_a_small_certificate = small_safe_is_accepted

pub the_small_certificate_lists_what_is_within_reach : SmallCertainCertificate
the_small_certificate_lists_what_is_within_reach = small_certain_certificate

pub the_sample_meets_and_breaks_limits : LimitCases
unfolding computed
the_sample_meets_and_breaks_limits = (refl, refl, refl, refl, refl, refl, refl, refl, refl, refl, refl)

pub a_refusal_with_limits_has_its_number : LimitRefusals
a_refusal_with_limits_has_its_number = limit_refusals

pub the_order_of_states_changes_no_reply : OrderAlike
the_order_of_states_changes_no_reply = order_alike

pub the_order_of_states_changes_no_reply_under_limits : LimitedOrderAlike
the_order_of_states_changes_no_reply_under_limits = limited_order_alike

pub the_order_of_states_changes_no_reply_with_a_list : NumberedOrderAlike
the_order_of_states_changes_no_reply_with_a_list = numbered_order_alike

pub the_order_of_states_changes_no_round : RoundOrderAlike
the_order_of_states_changes_no_round = round_order_alike

pub the_order_of_states_changes_no_answer : AnswerOrderAlike
the_order_of_states_changes_no_answer = answer_order_alike

pub a_wrong_state_is_the_first_of_its_set : FirstWrongState
a_wrong_state_is_the_first_of_its_set = first_wrong_state

pub an_explicit_set_is_not_refused_with_7 : NoOrderFault
an_explicit_set_is_not_refused_with_7 = no_order_fault

pub the_sample_lists_its_states_in_any_order : OrderCases
unfolding computed
the_sample_lists_its_states_in_any_order = (refl, refl, refl, refl, refl, refl)

-- ---- document 02, d

pub version_1_is_read_as_before : VersionOne
version_1_is_read_as_before = version_one

pub a_version_2_twin_gets_the_reply : TwinReplies
a_version_2_twin_gets_the_reply = twin_replies

pub a_version_2_twin_is_checked_alike : TwinChecks
a_version_2_twin_is_checked_alike = twin_checks

pub a_version_2_file_with_a_zero_mask_is_a_twin : TwinForm
a_version_2_file_with_a_zero_mask_is_a_twin = twin_form

pub a_task_of_few_states_has_few_unknown_facts : FewUnknown
a_task_of_few_states_has_few_unknown_facts t h = few_unknown_facts t 12 h

pub the_sample_with_unknown_facts : UnknownCases
unfolding computed
the_sample_with_unknown_facts = (refl, refl, refl, refl, refl, refl, refl, refl, refl, refl, refl, refl, refl)

pub kind_1_gives_leave_up_to_12_facts : LeaveCases
unfolding computed
kind_1_gives_leave_up_to_12_facts = (refl, refl, refl, refl, refl, refl, refl)

-- ---- document 02, j

pub version_2_is_read_as_before : VersionTwo
version_2_is_read_as_before = version_two

pub an_older_file_gets_the_reply_of_version_3 : OlderReplies
an_older_file_gets_the_reply_of_version_3 = older_replies

pub an_older_file_is_checked_alike : OlderChecks
an_older_file_is_checked_alike = older_checks

pub a_fact_needed_on_and_off_is_never_met : NeededBothWays
a_fact_needed_on_and_off_is_never_met = needed_both_ways

pub the_sample_with_facts_needed_off : OffCases
unfolding computed
the_sample_with_facts_needed_off = (refl, refl, refl, refl, refl, refl, refl, refl, refl, refl, refl, refl, refl, refl, refl)

pub a_goal_without_states_is_kind_2_still : NoGoalCases
unfolding computed
a_goal_without_states_is_kind_2_still = (refl, refl, refl, refl, refl, refl, refl, refl, refl, refl, refl)

-- ---- document 02, k

pub a_step_refused_with_11_is_untrue : RefusedIsUntrue
a_step_refused_with_11_is_untrue = refused_is_untrue

pub judgements_are_true_with_a_list : NumberedJudged
judgements_are_true_with_a_list = numbered_judged

pub judgements_are_true_under_limits : LimitedJudged
judgements_are_true_under_limits = limited_judged

pub judgements_are_true_by_a_run : RunJudged
judgements_are_true_by_a_run = run_judged

pub a_stricter_task_is_safe : StricterIsSafe
a_stricter_task_is_safe bytes e =
    let (f, read, safe) = accepted_is_safe bytes e in (f, read, λ t h. stricter_safe t f.task h safe)

pub a_task_stricter_than_a_safe_one_is_safe : StricterThanSafe
a_task_stricter_than_a_safe_one_is_safe = stricter_safe

pub a_stricter_task_is_made_by_alterations : StricterByAlterations
a_stricter_task_is_made_by_alterations = by_alterations

pub stricter_is_an_order : StricterOrder
stricter_is_an_order = (stricter_itself, stricter_further)

pub an_old_certificate_may_no_longer_pass : StricterCases
unfolding computed
an_old_certificate_may_no_longer_pass = (refl, refl, refl, refl, refl, refl, refl, refl, refl, refl, refl, refl)
