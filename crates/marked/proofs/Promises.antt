-- The twelve marked cases hold, and the further ones: each is computed. Assumes nothing.
use mathlib.Core.Path.{refl}
use Rattle.ground.specs.Digits.{spelled_within, spelled}
use Rattle.ground.specs.Text.{bytes}
use Rattle.classes.specs.Classes.{class_of}
use Rattle.hours.specs.Reading.{scanned, hour_of, plain_of}
use Rattle.writer.specs.Writing.{hour_text}
use Rattle.texts.specs.Lines.{lines_of, line_length, line_at, past_line}
use Rattle.texts.specs.Meaning.{joined}
use Rattle.fields.specs.Fields.{same_bytes, is_ended, fields_of, shape_of}
use Rattle.fields.specs.Meaning.{tabbed}
use Rattle.lines.specs.Reading.{steam, steam_at, ranged, plain_within, hour_within, read_all, line_of, heading_of, order_of, load_of}
use Rattle.choice.specs.BestFit.{offer, best_fit}
use Rattle.book.specs.Soundness.{all_up_to, all_met, soundness, is_sound, opened}
use Rattle.book.specs.Taking.{decided}
use Rattle.orders.specs.Answers.{opening, order_lines, answers_from, book_after}
use Rattle.loads.specs.Checks.{load_asked}
use Rattle.plans.specs.Judging.{through, note_order, any_of, note_load, list_judged, plan_judged, loads_counted, both_judged, judged}
use Rattle.replies.specs.Replies.{reply_line, sum_line, numbered, replies_from, reply_of}
use Rattle.limit.specs.Example.{paper_list, paper_plan}
use Rattle.marked.specs.Cases.{AllHold, paper_reply, marked_cases}
use Rattle.marked.specs.Further.{further_cases, three_chambers, three_reply, eight_chambers, eight_reply, short_list}

-- all twelve
pub marked_cases_hold : AllHold marked_cases
unfolding
    marked_cases paper_reply paper_list paper_plan bytes spelled spelled_within hour_text class_of scanned hour_of plain_of lines_of line_length line_at past_line joined same_bytes is_ended fields_of shape_of tabbed steam steam_at ranged plain_within hour_within read_all line_of heading_of order_of load_of offer best_fit all_up_to all_met soundness is_sound opened decided opening order_lines answers_from book_after reply_line sum_line numbered replies_from reply_of through note_order any_of load_asked note_load list_judged plan_judged loads_counted both_judged judged
marked_cases_hold = refl

-- and so do the further ones
pub further_cases_hold : AllHold further_cases
unfolding
    further_cases three_chambers three_reply eight_chambers eight_reply short_list bytes spelled spelled_within hour_text class_of scanned hour_of plain_of lines_of line_length line_at past_line joined same_bytes is_ended fields_of shape_of tabbed steam steam_at ranged plain_within hour_within read_all line_of heading_of order_of load_of offer best_fit all_up_to all_met soundness is_sound opened decided opening order_lines answers_from book_after reply_line sum_line numbered replies_from reply_of through note_order any_of load_asked note_load list_judged plan_judged loads_counted both_judged judged
further_cases_hold = refl
