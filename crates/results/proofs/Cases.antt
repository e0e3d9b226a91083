-- Cases 9 to 12 hold.
use mathlib.Core.Path.{◌≡◌, refl, ◌∙◌, ap}
use mathlib.Core.Bool.{Bool, true, false}
use mathlib.Core.List.{List, [], ◌∷◌, flat_map}
use mathlib.Core.Option.{none, some}
use Prim.Native.Nat.{ℕ, zero, suc, ◌%◌, ◌≤◌, ◌<◌}
use native.Mathlib.Omega.{arith}
use borrow.Author.Tests.{lt-leb}
use lib.Dec.{lit≤}
use lib.Ieee.{neg, add, sub, mul, div, lt, le, of_bits, of_int, to_bits}
use lib.ListN.{length}
use Rattle.areas.specs.Words.{labelled}
use Rattle.order.specs.Lists.{gather, up_from, has}
use Rattle.order.specs.Sorting.{sort, insert, sort_once, include}
use Rattle.order.specs.Keys.{lex_le}
use Rattle.wire.specs.Bytes.{words, number, number_at, bytes, splice}
use Rattle.length.specs.Length.{length_of}
use Rattle.length.specs.Total.{total_key}
use Rattle.format.specs.Values.{Base, Job}
use Rattle.format.specs.Records.{span_at, base_at, boundary_at, source_at, span_bytes, source_bytes, boundary_bytes, observation_bytes}
use Rattle.format.specs.Header.{counts_at, header_at, offsets_of}
use Rattle.format.specs.Decode.{decode, decode_list, job_with, base_records, boundary_records, observation_records, source_records, decode_boundaries}
use Rattle.format.specs.Decode.{source_count}
use Rattle.format.specs.Corridor.{upright_span, crossing, two_crossings, four_cells, both_merged, upright, corridor_observation, corridor, corridor_answer}
use Rattle.format.proofs.Corridor.{corridor-job, corridor-bytes}
use Rattle.format.specs.Encode.{encode_answer, answer_words, encode_boundaries, boundary_record, observation_record, observations_of, sources_of}
use Rattle.graph.specs.Parts.{component_of}
use Rattle.graph.specs.Labels.{count}
use Rattle.areas.specs.Areas.{area_labels}
use Rattle.areas.specs.Assessments.{records}
use Rattle.grid.specs.Directions.{eight}
use Rattle.serial_links.specs.Limits.{Limits, limits000}
use Rattle.thresholds.specs.Block.{block_fault, limits_in, thresholds_check, block000}
use Rattle.thresholds.proofs.Blocks.{block-000}
use Rattle.checks.specs.Checks.{Check, first_refusal, each}
use Rattle.checks.specs.Single.{list_checks, span_check, header_checks, cell_check, base_check, sums_fault, ramp_check, width_check, ends_check, span_checks}
use Rattle.checks_calls.specs.Refusals.{reduce_checks, mark_checks, by_list_checks, boundary_checks, job_checks, layout_checks, record_checks, ends_checks}
use Rattle.position.specs.Order.{pos_same, pos_le, canonical}
use Rattle.position.specs.declared.Span.{Span}
use Rattle.context.specs.Anchors.{anchors_of}
use Rattle.context.specs.Listing.{span_key, ends_key}
use Rattle.context.specs.RegionStats.{region_stats}
use Rattle.context.specs.Cards.{cards, card_bytes, card_words}
use Rattle.checks.specs.Numbers.{slice_too_short}
use Rattle.serial_merging.specs.Keys.{source_key, sources_key, observation_key}
use Rattle.serial_merging.specs.Copies.{canon_observation, canon, copies_of}
use Rattle.serial_merging.specs.Consolidation.{or_itself, observed, consolidate}
use Rattle.serial_merging.specs.Groups.{Groups, no_groups, all_groups}
use Rattle.serial_merging.specs.Kept.{members_of, consolidated, slot, kept}
use Rattle.serial_merging.specs.Runs.{Run, reduce_run, items_of, canon_item, groups_of, kept_of, rules_answer}
use Rattle.results.specs.Rules.{grid_of, rules_on, rules_of}
use Rattle.results.specs.Results.{after_work, Outcome, left_by, work_size, own_ends, labels_of, answer_of, marks_of, reduced, reduce_with, reduce_by_list_with}
use Rattle.results.specs.Results.{cards_of, cards_with}
use Rattle.results.specs.Calls.{reduce_result, reduce_by_list_result, mark_result, cards_result}
use Rattle.results.specs.Cases.{one_cell, anchored, anchored_answer, leaves, Gives}
use Rattle.results.specs.Cases.{one_span, corridor_cards, OtherCalls, leaves_one, OneCellCase, CorridorCase}
use Rattle.checks.proofs.Firsts.{append-none}
use Rattle.results.proofs.Results.{writing-success, reduced-success, mark-success}
use Rattle.results.proofs.Thresholds.{admitted-checks, reduced-admitted}

-- The corridor with these bases.
abbrev job : List Base → Job
job bases = four_cells bases two_crossings

abbrev anchor : ℕ → Base
anchor id = record { id = number (bytes 4 id); anchor = some (record { x = 1; y = 0 }) }

abbrev pair : Groups
pair = record { serial = []; flat = record { ranks = 0 ∷ 1 ∷ []; retained = 0 } ∷ [] }

-- Both jobs pass the checks, and decode to these values.
corridor-passes : first_refusal (reduce_checks corridor) ≡ none
unfolding corridor reduce_checks boundary_checks job_checks layout_checks header_checks record_checks each cell_check base_check sums_fault ramp_check
    width_check
    ends_checks ends_check span_checks first_refusal header_at offsets_of boundary_at base_at number_at bytes boundary_records observation_records
    source_count pos_same
corridor-passes = refl

anchored-passes : (id : ℕ) → first_refusal (reduce_checks (anchored id)) ≡ none
unfolding anchored reduce_checks boundary_checks job_checks layout_checks header_checks record_checks each cell_check base_check sums_fault ramp_check
    width_check
    ends_checks ends_check span_checks first_refusal header_at offsets_of boundary_at base_at number_at bytes boundary_records observation_records
    source_count pos_same
anchored-passes id = refl

anchored-job : (id : ℕ) → decode (anchored id) ≡ job (anchor id ∷ [])
unfolding anchored decode job_with decode_boundaries number_at bytes counts_at base_records base_at boundary_records observation_records source_records
    boundary_at
    source_at
anchored-job id = refl

-- Labels and groups.
job-labels : (bases : List Base) → labels_of eight (job bases) (own_ends (job bases)) ≡ 1 ∷ 2 ∷ 3 ∷ 3 ∷ []
unfolding area_labels component_of count up_from
job-labels bases = refl

job-pairs : (bases : List Base) → length (records eight (grid_of (job bases)) (own_ends (job bases))) ≡ 2
unfolding records component_of count up_from
job-pairs bases = refl

abbrev run : Run
run = reduce_run two_crossings

corridor-groups : groups_of (rules_of limits000 eight (job [])) run ≡ pair
unfolding groups_of items_of canon_item canon canonical pos_le ends_key span_key source_key sort insert sort_once include lex_le rules_on anchors_of
    component_of count
    up_from
    length_of of_int of_bits to_bits neg add sub mul div lt le
corridor-groups = refl

anchored-groups : (id : ℕ) → groups_of (rules_of limits000 eight (job (anchor id ∷ []))) run ≡ no_groups
unfolding groups_of items_of canon_item canon canonical pos_le ends_key span_key source_key sort insert sort_once include lex_le rules_on anchors_of
    component_of count
    up_from
    length_of of_int of_bits to_bits neg add sub mul div lt le
anchored-groups id = refl

-- What is kept.
pair-kept : kept (copies_of two_crossings) (all_groups pair) ≡ both_merged ∷ []
unfolding kept_of all_groups kept slot consolidated consolidate members_of observed or_itself copies_of canon canon_observation canonical pos_le ends_key
    span_key
    source_key
    sources_key observation_key total_key sort insert sort_once include lex_le gather up_from has
pair-kept = refl

none_kept : kept (copies_of two_crossings) (all_groups no_groups) ≡ two_crossings
unfolding kept_of all_groups kept slot consolidated consolidate members_of observed or_itself copies_of canon canon_observation canonical pos_le ends_key
    span_key
    source_key
    sources_key observation_key total_key sort insert sort_once include lex_le gather up_from has
none_kept = refl

both_bytes : encode_answer two_crossings ≡ anchored_answer
unfolding anchored_answer encode_answer answer_words encode_boundaries boundary_record observation_record observations_of sources_of boundary_bytes
    observation_bytes
    source_bytes span_bytes bytes
both_bytes = refl

-- The answers, from the jobs' bytes.
abbrev answer : List ℕ → List ℕ
answer s = answer_of limits000 eight (decode s) (own_ends (decode s))

pub corridor-answer : answer_of limits000 eight (decode corridor) (own_ends (decode corridor)) ≡ corridor_answer
unfolding rules_answer kept_of
corridor-answer =
    ap (λ (j : Job). answer_of limits000 eight j (own_ends j)) corridor-job
    ∙ ap (λ (g : Groups). encode_answer (kept (copies_of two_crossings) (all_groups g))) corridor-groups
    ∙ ap encode_answer pair-kept
    ∙ corridor-bytes

anchored-answer : (id : ℕ) → answer (anchored id) ≡ anchored_answer
unfolding rules_answer kept_of
anchored-answer id =
    ap (λ (j : Job). answer_of limits000 eight j (own_ends j)) (anchored-job id)
    ∙ ap (λ (g : Groups). encode_answer (kept (copies_of two_crossings) (all_groups g))) (anchored-groups id)
    ∙ ap encode_answer none_kept
    ∙ both_bytes

-- A job that passes and decodes to the corridor's map gives its answer.
gives : (s : List ℕ) (bases : List Base) (written : List ℕ) → first_refusal (reduce_checks s) ≡ none → decode s ≡ job bases → answer s ≡ written
    → Gives s (1 ∷ 2 ∷ 3 ∷ 3 ∷ []) written
unfolding reduce_result reduce_with labelled words
gives s bases written p d a work out w o =
    let limits = block-000.limits in
    let few : length (records eight (grid_of (decode s)) (own_ends (decode s))) ≤ 4096
    = rw (d, job-pairs bases) (lit≤ tt) in
    let room : work_size (decode s) ≤ length work = rw d w in
    let fits : length (answer s) ≤ length out = rw a o in
    let labels : labels_of eight (decode s) (own_ends (decode s)) ≡ 1 ∷ 2 ∷ 3 ∷ 3 ∷ [] = rw d (job-labels bases) in
    ap (λ (l : Limits). reduced l eight (thresholds_check block000 ∷ reduce_checks s) (decode s) (own_ends (decode s)) work out) limits
    ∙ reduced-admitted limits000 eight block000 (reduce_checks s) (decode s) (own_ends (decode s)) work out block-000.admitted
    ∙ reduced-success limits000 eight (reduce_checks s) (decode s) (own_ends (decode s)) work out p room few fits
    ∙ ap (λ (l : List ℕ). record { number = 0; detail = length (answer s); work = labelled l work; out = splice out 0 (answer s) }) labels
    ∙ ap (λ (l : List ℕ). leaves (length l) (1 ∷ 2 ∷ 3 ∷ 3 ∷ []) l work out) a

-- The corridor's marks.
corridor-marked : first_refusal (mark_checks corridor) ≡ none
unfolding mark_checks corridor reduce_checks boundary_checks job_checks layout_checks header_checks record_checks each cell_check base_check sums_fault
    ramp_check
    width_check ends_checks ends_check span_checks first_refusal header_at offsets_of boundary_at base_at number_at bytes boundary_records
    observation_records source_count
    pos_same
corridor-marked = refl

job-marks : marks_of eight (job []) ≡ 1 ∷ 1 ∷ []
unfolding marks_of component_of count up_from
job-marks = refl

-- Two boundaries at one place: neither is a choke.
doubled-marks : marks_of eight (four_cells [] (crossing (upright_span 8) [] [] ∷ crossing (upright_span 8) [] [] ∷ [])) ≡ 0 ∷ 0 ∷ []
unfolding marks_of component_of count up_from
doubled-marks = refl

marks-left : (work marks : List ℕ) → 40 ≤ length work → 2 ≤ length marks
    → mark_result corridor work marks ≡ leaves 2 (1 ∷ 2 ∷ 3 ∷ 3 ∷ []) (1 ∷ 1 ∷ []) work marks
unfolding mark_result labelled words
marks-left work marks w m =
    let d = corridor-job in
    let few : length (records eight (grid_of (decode corridor)) (own_ends (decode corridor))) ≤ 4096 = rw (d, job-pairs []) (lit≤ tt) in
    let room : work_size (decode corridor) ≤ length work = rw d w in
    let fits : length (decode corridor).boundaries ≤ length marks = rw d m in
    mark-success eight corridor work marks corridor-marked room few fits
    ∙ ap (λ (j : Job). record {
      number = 0;
      detail = length j.boundaries;
      work = labelled (labels_of eight j (own_ends j)) work;
      out = splice marks 0 (marks_of eight j);
    }) d
    ∙ ap (λ (l : List ℕ). record { number = 0; detail = 2; work = labelled l work; out = splice marks 0 (marks_of eight (job [])) }) (job-labels [])
    ∙ ap (λ (l : List ℕ). leaves 2 (1 ∷ 2 ∷ 3 ∷ 3 ∷ []) l work marks) job-marks

-- The corridor's cards.
job-cards : cards_of eight (job []) ≡ corridor_cards
unfolding cards_of cards card_bytes card_words region_stats corridor_cards words flat_map bytes component_of count up_from area_labels
job-cards = refl

cards-left : (work out : List ℕ) → 40 ≤ length work → 120 ≤ length out
    → cards_result corridor work out ≡ leaves 120 (1 ∷ 2 ∷ 3 ∷ 3 ∷ []) corridor_cards work out
unfolding cards_result cards_with labelled words corridor_cards bytes
cards-left work out w m =
    let d = corridor-job in
    let few : length (records eight (grid_of (decode corridor)) (own_ends (decode corridor))) ≤ 4096 = rw (d, job-pairs []) (lit≤ tt) in
    let room : work_size (decode corridor) ≤ length work = rw d w in
    let fits : length (cards_of eight (decode corridor)) ≤ length out = rw (d, job-cards) m in
    writing-success eight slice_too_short (cards_of eight (decode corridor)) (reduce_checks corridor) (decode corridor) (own_ends (decode corridor)) work out
    corridor-passes room few fits
    ∙ ap (λ (j : Job). left_by 0 (length (cards_of eight j)) (labelled (labels_of eight j (own_ends j)) work) (splice out 0 (cards_of eight j))) d
    ∙ ap (λ (l : List ℕ). left_by 0 (length (cards_of eight (job []))) (labelled l work) (splice out 0 (cards_of eight (job [])))) (job-labels [])
    ∙ ap (λ (l : List ℕ). leaves (length l) (1 ∷ 2 ∷ 3 ∷ 3 ∷ []) l work out) job-cards

-- The corridor by a list of one span.
listed-passes : first_refusal (by_list_checks corridor one_span) ≡ none
unfolding by_list_checks list_checks span_check one_span span_at corridor reduce_checks boundary_checks job_checks layout_checks header_checks record_checks
    each cell_check
    base_check sums_fault ramp_check width_check ends_checks ends_check span_checks first_refusal header_at offsets_of boundary_at base_at number_at bytes
    boundary_records
    observation_records source_count pos_same
listed-passes = refl

listed : decode_list one_span ≡ upright_span 8 ∷ []
unfolding decode_list one_span span_at number_at bytes
listed = refl

listed-labels : labels_of eight (job []) (upright_span 8 ∷ []) ≡ 1 ∷ 2 ∷ 2 ∷ 2 ∷ []
unfolding area_labels component_of count up_from
listed-labels = refl

listed-pairs : length (records eight (grid_of (job [])) (upright_span 8 ∷ [])) ≡ 1
unfolding records component_of count up_from
listed-pairs = refl

listed_answer : (limits : Limits) → answer_of limits eight (job []) (upright_span 8 ∷ []) ≡ anchored_answer
unfolding rules_answer kept_of groups_of
listed_answer limits = ap encode_answer none_kept ∙ both_bytes

list_left : (block work out : List ℕ) → block_fault block ≡ false → 40 ≤ length work → length anchored_answer ≤ length out
    → reduce_by_list_result corridor one_span block work out ≡ leaves (length anchored_answer) (1 ∷ 2 ∷ 2 ∷ 2 ∷ []) anchored_answer work out
unfolding reduce_by_list_result reduce_by_list_with labelled words
list_left block work out admitted w o =
    let limits = limits_in block in
    let few : length (records eight (grid_of (job [])) (upright_span 8 ∷ [])) ≤ 4096 = rw listed-pairs (lit≤ tt) in
    let fits : length (answer_of limits eight (job []) (upright_span 8 ∷ [])) ≤ length out = rw (listed_answer limits) o in
    reduced-admitted limits eight block (by_list_checks corridor one_span) (decode corridor) (decode_list one_span) work out admitted
    ∙ ap (λ (j : Job). reduced limits eight (by_list_checks corridor one_span) j (decode_list one_span) work out) corridor-job
    ∙ ap (λ (l : List Span). reduced limits eight (by_list_checks corridor one_span) (job []) l work out) listed
    ∙ reduced-success limits eight (by_list_checks corridor one_span) (job []) (upright_span 8 ∷ []) work out listed-passes w few fits
    ∙ ap (λ (l : List ℕ). record {
      number = 0;
      detail = length (answer_of limits eight (job []) (upright_span 8 ∷ []));
      work = labelled l work;
      out = splice out 0 (answer_of limits eight (job []) (upright_span 8 ∷ []));
    }) listed-labels
    ∙ ap (λ (l : List ℕ). leaves (length l) (1 ∷ 2 ∷ 2 ∷ 2 ∷ []) l work out) (listed_answer limits)

pub other-calls : OtherCalls
other-calls = record { marks = marks-left; by-list = list_left; cards = cards-left }

-- What is written goes to the first bytes, and the later ones are as they were.
tail-left : (after_work [] [] (9 ∷ 8 ∷ 7 ∷ []) (1 ∷ []) 1 none).out ≡ 1 ∷ 8 ∷ 7 ∷ []
unfolding after_work splice
tail-left = refl

-- One cell, of any kind.
abbrev one_job : ℕ → Job
one_job c = record { width = 1; height = 1; cells = c ∷ []; bases = []; boundaries = [] }

one-laid : (c : ℕ) → first_refusal (layout_checks (one_cell c)) ≡ none
unfolding one_cell layout_checks header_checks first_refusal header_at offsets_of number_at bytes
one-laid c = refl

one-records : (c : ℕ) → c < 32 → first_refusal (record_checks (one_cell c) (header_at (one_cell c)).counts) ≡ none
unfolding one_cell record_checks each cell_check sums_fault first_refusal header_at number_at bytes boundary_records observation_records source_count
one-records c h = rw (lt-leb 32 c h)

one-ends : (distinct : Bool) (c : ℕ) → first_refusal (ends_checks distinct (one_cell c) (header_at (one_cell c)).counts) ≡ none
unfolding one_cell ends_checks each first_refusal header_at number_at bytes
one-ends distinct c = refl

one-open : (distinct : Bool) (c : ℕ) → c < 32 → first_refusal (boundary_checks distinct (one_cell c)) ≡ none
unfolding boundary_checks job_checks
one-open distinct c h =
    append-none (job_checks (one_cell c)) _ (append-none (layout_checks (one_cell c)) _ (one-laid c) ∙ one-records c h) ∙ one-ends distinct c

one_passes : (c : ℕ) → c < 32 → first_refusal (reduce_checks (one_cell c)) ≡ none
unfolding reduce_checks
one_passes c h = one-open true c h

one-job : (c : ℕ) → decode (one_cell c) ≡ one_job c
unfolding one_cell decode job_with decode_boundaries number_at bytes counts_at base_records base_at boundary_records observation_records source_records
    boundary_at
    source_at
one-job c = refl

one-pairs : (c : ℕ) → length (records eight (grid_of (one_job c)) []) ≡ 0
unfolding records
one-pairs c = refl

one_answer : (limits : Limits) (c : ℕ) → answer_of limits eight (one_job c) [] ≡ words (0 ∷ 0 ∷ 0 ∷ 24 ∷ 24 ∷ 24 ∷ [])
unfolding rules_answer kept_of kept copies_of sort gather up_from encode_answer answer_words encode_boundaries observations_of sources_of words bytes
one_answer limits c = refl

six-words : length (words (0 ∷ 0 ∷ 0 ∷ 24 ∷ 24 ∷ 24 ∷ [])) ≡ 24
unfolding words bytes
six-words = refl

one_label : (c : ℕ) → labels_of eight (one_job c) [] ≡ c % 2 ∷ []
unfolding area_labels component_of count up_from
one_label c = go (c % 2) refl (omega arith)
  where
    go : (b : ℕ) → c % 2 ≡ b → b < 2 → labels_of eight (one_job c) [] ≡ b ∷ []
    go zero e h = rw e
    go (suc zero) e h = rw e
    go (suc (suc b)) e h = absurd (omega arith)

one_left : (limits : Limits) (c : ℕ) (checks : List Check) (work out : List ℕ) → first_refusal checks ≡ none → 10 ≤ length work → 24 ≤ length out
    → reduced limits eight checks (one_job c) [] work out ≡ leaves_one c work out
unfolding labelled words
one_left limits c checks work out p w o =
    let few : length (records eight (grid_of (one_job c)) []) ≤ 4096 = rw one-pairs (lit≤ tt) in
    let size : length (answer_of limits eight (one_job c) []) ≡ 24 = ap (λ (l : List ℕ). length l) (one_answer limits c) ∙ six-words in
    let fits : length (answer_of limits eight (one_job c) []) ≤ length out = rw size o in
    reduced-success limits eight checks (one_job c) [] work out p w few fits
    ∙ ap (λ (l : List ℕ). left (length l) l (labels_of eight (one_job c) [])) (one_answer limits c)
    ∙ ap (λ (n : ℕ). left n six (labels_of eight (one_job c) [])) six-words
    ∙ ap (left 24 six) (one_label c)
  where
    six : List ℕ
    six = words (0 ∷ 0 ∷ 0 ∷ 24 ∷ 24 ∷ 24 ∷ [])

    left : ℕ → List ℕ → List ℕ → Outcome
    left n l labels = left_by 0 n (labelled labels work) (splice out 0 l)

eleven : (c : ℕ) → c < 32 → (block work out : List ℕ) → block_fault block ≡ false → 10 ≤ length work → 24 ≤ length out
    → reduce_result (one_cell c) block work out ≡ leaves_one c work out
unfolding reduce_result reduce_with
eleven c h block work out admitted w o =
    let d = one-job c in
    let checks : List Check = thresholds_check block ∷ reduce_checks (one_cell c) in
    rw d (one_left (limits_in block) c checks work out (admitted-checks block (reduce_checks (one_cell c)) admitted ∙ one_passes c h) w o)

no-spans : decode_list [] ≡ []
unfolding decode_list
no-spans = refl

one-listed : (c : ℕ) → c < 32 → first_refusal (by_list_checks (one_cell c) []) ≡ none
unfolding by_list_checks list_checks each first_refusal
one-listed c h = append-none (boundary_checks false (one_cell c)) _ (one-open false c h)

eleven-listed : (c : ℕ) → c < 32 → (block work out : List ℕ) → block_fault block ≡ false → 10 ≤ length work → 24 ≤ length out
    → reduce_by_list_result (one_cell c) [] block work out ≡ leaves_one c work out
unfolding reduce_by_list_result reduce_by_list_with
eleven-listed c h block work out admitted w o =
    let d = one-job c in
    let checks : List Check = thresholds_check block ∷ by_list_checks (one_cell c) [] in
    rw (d, no-spans) (one_left (limits_in block) c checks work out (admitted-checks block (by_list_checks (one_cell c) []) admitted ∙ one-listed c h) w o)

pub one-cell-case : OneCellCase
one-cell-case = record { reduced = eleven; by-list = eleven-listed }

corridor-long : length corridor ≡ 148
unfolding corridor words upright bytes flat_map
corridor-long = refl

answer-long : length corridor_answer ≡ 152
unfolding corridor_answer words upright corridor_observation bytes flat_map
answer-long = refl

pub corridor-case : CorridorCase
corridor-case = record {
  job-long = corridor-long;
  answer-long = answer-long;
  reduced = gives corridor [] corridor_answer corridor-passes corridor-job corridor-answer;
  anchored-reduced = λ id. gives (anchored id) (anchor id ∷ []) anchored_answer (anchored-passes id) (anchored-job id) (anchored-answer id);
}
