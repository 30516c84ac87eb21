use native.Mathlib.Omega.{arith}
use Prim.Native.Nat.{ℕ, ◌<◌}
use mathlib.Core.Path.{◌≡◌, refl, sym, ap, ◌∙◌, subst}
use mathlib.Core.List.{List, []}
use lib.ListN.{length, get_or}
use lib.Seq.{get_or-set_same}
use Rattle.board_groups.proofs.Facts.{rows_wide}
use Rattle.std.proofs.Common.{add-one}
use Rattle.base.specs.declared.refusal.Reason.TheVariants.{NoLane}
use Rattle.base.specs.Refusal.{refusal}
use Rattle.std.specs.Prelude.{Ok, Err}
use Rattle.board.specs.Board.{field}
use Rattle.board_lanes.specs.PagePlan.{GutterPacked}
use Rattle.board_lanes.proofs.PlanLaws.{nothing_planned, page_done, lanes_of_page, crowded_page, crowded_all, all_planned, count_keeps, packable_kept}
use Rattle.board_lanes.proofs.demands.plan_pages.Goals as goal

pub loop-p-init : goal.loop-p-init
loop-p-init c = ((λ k. refl), c.requires.packable, (λ b e y w. nothing_planned b _ _ y.sums), λ b n f. (n, f))

pub returns-in_default-clause-plan_held : goal.returns-in_default-clause-plan_held
returns-in_default-clause-plan_held c =
    let p-small : (c.loop-p.p < length c.args.pages.now) × (c.loop-p.p < 64) = (omega arith, omega arith) in
    let h = p-small in
    let low = h.1 in
    let inside = h.0 in
    let refused = subst (GutterPacked (field c.args.pages.now c.loop-p.p 1) c.args.asking.taps.now c.args.asking.marks.now (length c.args.asking.taps.now) c.loop-p.p c.loop-p.groups c.plan_gutter-packing.new.groups) c.in_default.is c.plan_gutter-packing.ensures in
    λ b e y w. (
      c.loop-p.p,
      crowded_all b c.loop-p.p (let q = ap length e in omega arith)
          (crowded_page b c.args.asking.taps.now c.loop-p.groups c.loop-p.facts c.args.asking.marks.now (length c.args.asking.taps.now) c.loop-p.p (omega arith) (c.loop-p.invariant.2 b e y w) c.args.groups.now y c.plan_gutter-packing.new.groups c.in_default.field-0
          (subst (λ (ps : List (List ℕ)). GutterPacked (field ps c.loop-p.p 1) c.args.asking.taps.now c.args.asking.marks.now (length c.args.asking.taps.now) c.loop-p.p c.loop-p.groups c.plan_gutter-packing.new.groups (Err c.in_default.field-0)) (sym e) refused)),
      c.at.ensures ∙ ap (refusal NoLane) (add-one c.loop-p.p),
    )

pub loop-p-preserved : goal.loop-p-preserved
loop-p-preserved c =
    let p-small : (c.loop-p.p < length c.args.pages.now) × (c.loop-p.p < 64) = (omega arith, omega arith) in
    let packs : GutterPacked (field c.args.pages.now c.loop-p.p 1) c.args.asking.taps.now c.args.asking.marks.now (length c.args.asking.taps.now) c.loop-p.p c.loop-p.groups c.plan_gutter-packing.new.groups (Ok c.in-Ok.count) = subst (GutterPacked (field c.args.pages.now c.loop-p.p 1) c.args.asking.taps.now c.args.asking.marks.now (length c.args.asking.taps.now) c.loop-p.p c.loop-p.groups c.plan_gutter-packing.new.groups) c.in-Ok.is c.plan_gutter-packing.ensures in
    let facts-room : c.loop-p.p < length c.loop-p.facts = omega (arith, p-small) in
    let h = p-small in
    let low = h.1 in
    let inside = h.0 in
    let same = c.loop-p.invariant.0 in
    let wide : 6 < length (get_or c.loop-p.facts c.loop-p.p []) = omega (arith, same c.loop-p.p, c.told-facts c.loop-p.p (omega arith)) in (
      (λ k. rows_wide c.loop-p.facts c.loop-p.p 6 c.in-Ok.count facts-room k ∙ same k),
      packable_kept (field c.args.pages.now c.loop-p.p 1) c.args.asking.taps.now c.args.asking.marks.now (length c.args.asking.taps.now) c.loop-p.p c.loop-p.groups c.plan_gutter-packing.new.groups _ (packs) c.plan_gutter-packing.auto.groups c.loop-p.invariant.1,
      (λ b e y w.
          let done = c.loop-p.invariant.2 b e y w in
          let r = lanes_of_page b c.args.asking.taps.now c.loop-p.groups c.loop-p.facts c.args.asking.marks.now (length c.args.asking.taps.now) c.loop-p.p (omega arith) done c.args.groups.now y c.plan_gutter-packing.new.groups c.in-Ok.count
          (subst (λ (ps : List (List ℕ)). GutterPacked (field ps c.loop-p.p 1) c.args.asking.taps.now c.args.asking.marks.now (length c.args.asking.taps.now) c.loop-p.p c.loop-p.groups c.plan_gutter-packing.new.groups (Ok c.in-Ok.count)) (sym e) (packs)) in
          page_done b c.loop-p.groups c.plan_gutter-packing.new.groups c.loop-p.facts c.loop-p.p done (omega arith) r.0 c.in-Ok.count r.1 r.2 _ (facts-room) (get_or-set_same (get_or c.loop-p.facts c.loop-p.p []) 6 c.in-Ok.count 0 wide)),
      λ b n f. count_keeps b c.loop-p.facts c.loop-p.p _ (facts-room) (c.loop-p.invariant.3 b n f),
    )

pub returns-clause-plan_held : goal.returns-clause-plan_held
returns-clause-plan_held c = let same : c.loop-p.p ≡ length c.args.pages.now = omega arith in
    λ b e y w. all_planned b _ _ c.loop-p.p (c.loop-p.invariant.2 b e y w) (same ∙ ap length (sym e))
