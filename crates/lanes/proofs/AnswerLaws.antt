-- From seated key rows to the definition's answer, in the lane answers and in a table's rows.
use mathlib.Core.Path.{◌≡◌, sym, ap, subst, ◌∙◌}
use mathlib.Core.List.{List, [], ◌++◌, map}
use Prim.Native.Nat.{ℕ, ◌≤◌, ◌<◌}
use native.Mathlib.Omega.{arith}
use lib.ListN.{length, get_or, take, drop, replicate, length-map, length-replicate}
use lib.Seq.{take_at, set-set}
use Rattle.base.specs.Sort.{sorted_rows}
use Rattle.lanes.specs.Lanes.{Demand, entries, packed, laned}
use Rattle.lanes.specs.LaneCall.{Sound, answer_to, answered}
use Rattle.lanes.specs.Keys.{key_of, demand_of, index_in, lanes_in, spread, with_lane, lane_column, each_with, result_of, rows_after, Seated, PackedNumbers, PackedRows}
use Rattle.std.specs.Prelude.{Result, Ok, Err}
use Rattle.lanes.specs.declared.pack.LanesFull.{LanesFull}
use Rattle.base.proofs.Every.{all_of, all_at}
use Rattle.lanes.proofs.RankLaws.{seated_result, seated_covers}
use Rattle.lanes.proofs.SpreadLaws.{Covers, lanes_front, length_lanes, spread_each, lane_column_lem}

module _ (ds : List Demand) (sound : Sound ds) (seated : List (List ℕ)) (r : Result ℕ LanesFull) (s : Seated (sorted_rows (map key_of (entries 0 ds))) seated r) where
  covers : Covers (length ds) seated
  covers = seated_covers ds sound seated r s

  pub index_within : (n : ℕ) → length ds ≤ n → (k : ℕ) → k < length seated → index_in (get_or seated k []) < n
  index_within n h k b = omega (arith, all_at (λ (row : List ℕ). index_in row < length ds) [] seated covers.within k b)

  -- the lanes of an empty buffer
  given : List ℕ
  given = lanes_in seated (replicate (length ds) 0)

  given_long : length given ≡ length ds
  unfolding given
  given_long = length_lanes seated (replicate (length ds) 0) ∙ length-replicate (length ds) 0

  answer : (p : Result ℕ LanesFull) → r ≡ p → packed ds ≡ result_of p given
  unfolding packed given
  answer p e = seated_result ds sound seated r s (replicate (length ds) 0) ∙ ap (λ (x : Result ℕ LanesFull). result_of x (lanes_in seated (replicate (length ds) 0))) e

  pub numbers_full : (old : List ℕ) (e : LanesFull) → r ≡ Err e → PackedNumbers ds old old (Err e)
  unfolding answered answer_to
  numbers_full old full h = record { result = answer (Err full) h; after = rw (answer (Err full) h) }

  pub numbers_laned : (old : List ℕ) (count : ℕ) → length ds ≤ length old → r ≡ Ok count → PackedNumbers ds old (lanes_in seated old) (Ok count)
  unfolding answered answer_to
  numbers_laned old count h e = record {
    result = answer (Ok count) e ∙ ap (λ (l : List ℕ). laned l count) (sym (ap (take (length ds)) front ∙ take_at given (drop (length ds) old) (length ds) given_long));
    after = rw (answer (Ok count) e, given_long) front;
  }
    where
      front : lanes_in seated old ≡ given ++ drop (length ds) old
      front = unfold given in lanes_front (length ds) seated old h covers

module _ (rows seated : List (List ℕ)) (sound : Sound (map demand_of rows)) (r : Result ℕ LanesFull)
    (s : Seated (sorted_rows (map key_of (entries 0 (map demand_of rows)))) seated r) where
  pub rows_full : (e : LanesFull) → r ≡ Err e → PackedRows rows rows (Err e)
  unfolding rows_after
  rows_full full h = record {
    result = answer (map demand_of rows) sound seated r s (Err full) h;
    after = rw (answer (map demand_of rows) sound seated r s (Err full) h);
  }

  pub rows_laned : (count : ℕ) → ((i : ℕ) → i < length rows → length (get_or rows i []) ≡ 8) → r ≡ Ok count
      → PackedRows rows (spread with_lane [] seated rows) (Ok count)
  unfolding rows_after
  rows_laned count wide e = record {
    result = answer (map demand_of rows) sound seated r s (Ok count) e
        ∙ ap (λ (l : List ℕ). laned l count) (sym (ap (map lane_column) each ∙ lane_column_lem rows lanes (all_of (λ (row : List ℕ). length row ≡ 8) [] rows wide) long));
    after = rw (answer (map demand_of rows) sound seated r s (Ok count) e) each;
  }
    where
      lanes : List ℕ
      lanes = given (map demand_of rows) sound seated r s

      long : length lanes ≡ length rows
      long = given_long (map demand_of rows) sound seated r s ∙ length-map rows demand_of

      each : spread with_lane [] seated rows ≡ each_with with_lane rows lanes
      each =
          unfold given in
          spread_each with_lane [] (λ row a b. set-set row 4 a b) seated rows (replicate (length (map demand_of rows)) 0) (length-replicate (length (map demand_of rows)) 0 ∙ length-map rows demand_of)
          (subst (λ (n : ℕ). Covers n seated) (length-map rows demand_of) (covers (map demand_of rows) sound seated r s))
