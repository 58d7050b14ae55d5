-- The definitions that computing a reply opens: `unfolding computed` opens them all.
-- Assumes nothing.
use Rattle.task.specs.Facts.{all_on, all_off, without, ones_in}
use Rattle.task.specs.Task.{action_at, is_init, is_goal, applies, after}
use Rattle.task.specs.Reach.{member, every}
use Rattle.task.specs.Stricter.{any, keeps_needs, needs_more, keeps_goal, stricter}
use Rattle.meaning.specs.Result.{◌>>=◌, need, known}
use Rattle.meaning.specs.Bytes.{big_endian, bytes_of, number, inside}
use Rattle.meaning.specs.File.{action_set_at, state_set_at, step_at, action_kind, basic_kind, state_kind, first, second, first_action}
use Rattle.meaning.specs.File.{second_action}
use Rattle.meaning.specs.Layout.{horn_rule, two_cnf_rule, items, ascending, field, count, mask, reference, action, clause, step}
use Rattle.meaning.specs.Layout.{up_to, plain, one, two, clauses, action_kinds, state_kinds, entry, entries, read_task, read_within}
use Rattle.meaning.specs.Layout.{goal_at, off_size, action_count_at, action_size, after_actions, unknown_mask, off_mask, read_file}
use Rattle.meaning.specs.Sets.{all_below, some_below, rounds, settled, action_node, in_actions, meets, in_basic, some_action, progressed}
use Rattle.meaning.specs.Sets.{regressed, state_node, in_set, states_within, actions_within}
use Rattle.meaning.specs.Shapes.{keep, the_only, kind_at, child, leaf_node, leaves, is_basic, is_complement, is_literal, literal_kind}
use Rattle.meaning.specs.Shapes.{complements, others, moved_left, moved_right, bracket, used, of_literals, of_clauses, lists_init}
use Rattle.meaning.specs.Shapes.{of_states, permitted, shape₁, shape_with, shape₂, shape₃, mixed, shape₄}
use Rattle.meaning.specs.Statements.{statements}
use Rattle.meaning.specs.Rules.{rules, pattern_kind}
use Rattle.meaning.specs.Match.{no_letters, ◌then◌, given, with_letter, stands_for, of_kind, of_action_kind, matchᴬ, match, match_entries}
use Rattle.meaning.specs.Match.{match_step, match_premises}
use Rattle.meaning.specs.Step.{judgement_kind, premise_count, all_rules, rule_at, entries_fit, well_formed, check_by, check_step}
use Rattle.meaning.specs.Reply.{check_steps, check_from, check_file, reply_to, reply_of}
use Rattle.meaning.specs.Numbering.{check_unused, check_numbers, rule_numbers, rule_from, rule_meant, rewritten, check_rewritten}
use Rattle.meaning.specs.Numbering.{reply_numbered}
use Rattle.meaning.specs.Rounds.{lawful_count, hand_back, check_round, round_to, round_of}
use Rattle.meaning.specs.Structure.{after_entries, action_set_count, state_set_count, step_count, listed_at}
use Rattle.meaning.specs.Question.{depth_node, depth, progression_node, has_progression, askable, answer_to, answer_of}
use Rattle.meaning.specs.Versions.{twin}
use Rattle.meaning.specs.Small.{reply_within, above, long_lists}
use Rattle.meaning.specs.Small.{breaches}
use Rattle.meaning.specs.Cases.{word, with_length, event_bytes, table_bytes, set_bytes, step_bytes, first_steps, all_steps, explicit012}
use Rattle.meaning.specs.Cases.{file_bytes, sample, cases, unknown_bytes, leave_file, off_table, off_bytes, goal_steps, off_file}
use Rattle.meaning.specs.Cases.{plain_table, adding, deleting, off_version, all_events, listed_events, back_bytes, stricter_table}

unfoldable pub computed : Unit {0}
unfolding all_on all_off without action_at is_init is_goal applies after member every ◌>>=◌ need known big_endian number inside action_set_at
    state_set_at step_at action_kind basic_kind state_kind first second first_action second_action ones_in horn_rule two_cnf_rule items ascending field
    count mask reference action clause step up_to plain one two clauses action_kinds state_kinds entry entries goal_at off_size action_count_at
    action_size after_actions unknown_mask off_mask read_task read_within read_file all_below some_below rounds settled action_node in_actions meets
    in_basic some_action progressed regressed state_node in_set states_within actions_within keep the_only kind_at child leaf_node leaves is_basic
    is_complement is_literal literal_kind complements others moved_left moved_right bracket used of_literals of_clauses lists_init of_states
    permitted shape₁ shape_with shape₂ shape₃ mixed shape₄ statements rules pattern_kind no_letters ◌then◌ given with_letter stands_for of_kind
    of_action_kind matchᴬ match match_entries match_step match_premises judgement_kind premise_count all_rules rule_at entries_fit well_formed check_by
    check_step check_steps check_from check_file reply_to reply_of check_unused check_numbers rule_numbers rule_from rule_meant rewritten
    check_rewritten reply_numbered lawful_count hand_back check_round round_to round_of depth_node depth progression_node has_progression askable
    answer_to answer_of twin bytes_of reply_within above after_entries action_set_count state_set_count step_count listed_at long_lists breaches word
    with_length event_bytes table_bytes set_bytes step_bytes first_steps all_steps explicit012 file_bytes sample cases unknown_bytes leave_file
    off_table off_bytes goal_steps off_file any keeps_needs needs_more keeps_goal stricter plain_table adding deleting off_version all_events
    listed_events back_bytes stricter_table
computed = tt
