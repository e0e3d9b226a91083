-- "The table below is proved as a whole from the definitions": the twelve cases.
use Rattle.std.specs.Prelude.{◌≡◌}
use Rattle.format.specs.Corridor.{corridor}
use Rattle.length.specs.Cases.{LengthCase}
use Rattle.areas.specs.Cases.{CutCases}
use Rattle.graph.specs.Cases.{BridgeCases, MarkCases}
use Rattle.answer_text.specs.Corridor.{corridor_text}
use Rattle.results.specs.Cases.{NegativeZeroCase, CountCase, OneCellCase, CorridorCase}
use Rattle.printing.specs.ChokeList.{choke_list}

pub record TwelveCases : Type 0 where
  -- 1: "Doubled differences 6, 8: length 5."
  pub case1 : LengthCase
  -- 2 to 4: "Map 2 × 1, both cells walkable", with one span: the fields `case2`, `case3`, `case4`
  pub cases2to4 : CutCases
  -- 5 to 8: records of one to three boundaries, the bridges: `case5` to `case8`
  pub cases5to8 : BridgeCases
  -- and the marks, request 5: "Case 8's boundary gets mark 1."
  pub cases5to8-marks : MarkCases
  -- 9: "Width bits of -0: 10."
  pub case9 : NegativeZeroCase
  -- 10: "257 boundaries: 4, detail 257; 256 pass that check."
  pub case10 : CountCase
  -- 11: "Map 1 × 1, no boundaries: words 0, 0, 0, 24, 24, 24."
  pub case11 : OneCellCase
  -- 12: "The corridor below; with an anchor in its second cell, 2 kept."
  pub case12 : CorridorCase
  -- "Here it prints": the eight lines
  pub case12-printed : choke_list corridor ≡ corridor_text
