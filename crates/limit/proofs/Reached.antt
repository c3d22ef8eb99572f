-- The paper's example, computed: the desk refuses no line of its list and says yes five times, and its plan is judged right with nine
-- loads. Assumes nothing.
use mathlib.Core.Path.{◌≡◌, refl}
use mathlib.Core.List.{List}
use lib.ListN.{length}
use Rattle.ground.specs.Refusal.{right}
use Rattle.ground.specs.Text.{bytes}
use Rattle.classes.specs.Classes.{class_of}
use Rattle.hours.specs.Reading.{scanned, hour_of, plain_of}
use Rattle.texts.specs.Lines.{lines_of, line_length, line_at}
use Rattle.fields.specs.Fields.{same_bytes, is_ended, fields_of, shape_of}
use Rattle.lines.specs.Reading.{steam, steam_at, ranged, plain_within, hour_within, read_all, line_of, heading_of, order_of, load_of}
use Rattle.choice.specs.BestFit.{offer, best_fit}
use Rattle.book.specs.Soundness.{fresh_book, all_up_to, all_met, soundness, is_sound}
use Rattle.book.specs.Taking.{decided}
use Rattle.orders.specs.Answers.{opening, order_lines, answers_from, refusals, yeses}
use Rattle.orders.specs.Meaning.{CleanList}
use Rattle.orders.proofs.Promises.{clean_exactly}
use Rattle.lines.specs.declared.Order.{Order}
use Rattle.loads.specs.Checks.{load_asked}
use Rattle.plans.specs.Judging.{through, note_order, any_of, note_load, list_judged, plan_judged, loads_counted, both_judged, judged}
use Rattle.limit.specs.Example.{paper_list, paper_plan}

-- the list has two chambers and a run of three hours, and is clean
pub paper_clean : (orders : List Order) × CleanList paper_list (record { chambers = 2; run = 300 }) orders
unfolding
    opening order_lines answers_from refusals bytes class_of scanned hour_of plain_of lines_of line_length line_at same_bytes is_ended fields_of shape_of steam steam_at ranged plain_within hour_within read_all line_of heading_of order_of decided is_sound soundness all_met all_up_to best_fit offer paper_list
paper_clean = (clean_exactly paper_list (record { chambers = 2; run = 300 })).0 (refl, refl)

-- it has nine orders
pub paper_orders : length (order_lines paper_list) ≡ 9
unfolding order_lines bytes lines_of paper_list
paper_orders = refl

-- the desk says yes five times
pub paper_yeses : yeses (answers_from (fresh_book 2 300) (order_lines paper_list)) ≡ 5
unfolding
    order_lines answers_from yeses bytes class_of scanned hour_of plain_of lines_of is_ended fields_of shape_of ranged plain_within hour_within read_all line_of order_of decided is_sound soundness all_met all_up_to best_fit offer paper_list
paper_yeses = refl

-- the plan is judged right with nine loads
pub paper_right : judged paper_list paper_plan ≡ right 9
unfolding
    judged both_judged loads_counted plan_judged list_judged note_load load_asked any_of note_order through opening order_lines bytes class_of scanned hour_of plain_of lines_of line_length line_at same_bytes is_ended fields_of shape_of steam steam_at ranged plain_within hour_within read_all line_of heading_of order_of load_of decided is_sound soundness all_met all_up_to best_fit offer paper_list paper_plan
paper_right = refl
