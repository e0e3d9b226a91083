-- The numbers of the refusals, as include/chokes.h names them.
use Rattle.std.specs.Prelude.{ℕ}

abbrev pub job_too_short : ℕ
job_too_short = 1

abbrev pub bad_sides : ℕ
bad_sides = 2

abbrev pub too_many_records : ℕ
too_many_records = 3

abbrev pub too_many_boundaries : ℕ
too_many_boundaries = 4

abbrev pub bad_layout : ℕ
bad_layout = 5

abbrev pub bad_cell : ℕ
bad_cell = 6

abbrev pub anchor_off_map : ℕ
anchor_off_map = 7

abbrev pub bad_sums : ℕ
bad_sums = 8

abbrev pub bad_ramp : ℕ
bad_ramp = 9

abbrev pub bad_width : ℕ
bad_width = 10

abbrev pub end_off_map : ℕ
end_off_map = 11

abbrev pub ends_coincide : ℕ
ends_coincide = 12

abbrev pub too_many_pairs : ℕ
too_many_pairs = 13

abbrev pub bad_list_length : ℕ
bad_list_length = 14

abbrev pub too_many_spans : ℕ
too_many_spans = 15

abbrev pub span_off_map : ℕ
span_off_map = 16

abbrev pub span_ends_coincide : ℕ
span_ends_coincide = 17

abbrev pub work_too_short : ℕ
work_too_short = 21

abbrev pub answer_too_short : ℕ
answer_too_short = 22

abbrev pub marks_too_short : ℕ
marks_too_short = 23

abbrev pub slice_too_short : ℕ
slice_too_short = 31

abbrev pub bad_thresholds : ℕ
bad_thresholds = 32
