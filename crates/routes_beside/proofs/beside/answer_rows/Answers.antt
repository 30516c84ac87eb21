-- `answer_rows` meets its contract: filled, ordered and booked, the items have their answers. Assumes nothing.
use Rattle.std.proofs.Common.{◌≡◌, ℕ, ◌+◌, ◌*◌, ◌≤◌, ◌<◌, length, take, sym, subst, arith, length-take-le}
use Rattle.base.specs.Runs.{key_in, order_in, Ordered}
use Rattle.base.proofs.RunLaws.{front_key, front_same, front_ordered}
use Rattle.routes_beside.proofs.Answered.{keys_few, answered}
use Rattle.routes_beside.proofs.beside.answer_rows.Goals as goal

pub order_by_key-m-requires : goal.order_by_key-m-requires
order_by_key-m-requires c =
    let a = c.args in
    let p = c.requires in
    let items = c.fill_items.new.items in
    let n : ℕ = length a.nodes.now + 2 * length a.laid.taps.now in
    let long : n ≤ length items = omega (arith, p.on_items, c.fill_items.auto.items) in
    let cut : length (take n items) ≡ n = length-take-le n items long in (
      omega (arith, cut, p.bricks.few, p.taps.few),
      p.bricks.few,
      λ i h.
          let low : i < n = omega (arith, h, cut) in
          subst (λ (k : ℕ). k ≤ length a.nodes.now) (sym (front_key items n i low)) (keys_few a.nodes.now a.laid.facts.now a.laid.taps.now a.asked.now items (length a.laid.taps.now) p.bricks p.taps c.fill_items.ensures i low),
    )

pub returns : goal.returns
returns c =
    let a = c.args in
    let p = c.requires in
    let items = c.fill_items.new.items in
    let front = c.order_by_key-m.new.rows in
    let m = c.order_by_key-m.result in
    let n : ℕ = length a.nodes.now + 2 * length a.laid.taps.now in
    let long : n ≤ length items = omega (arith, p.on_items, c.fill_items.auto.items) in
    let cut : length (take n items) ≡ n = length-take-le n items long in
    let o = c.order_by_key-m.ensures in
    let most : m ≤ n = omega (arith, o.upper_bound.0, cut) in
    answered a.laid.facts.now a.laid.taps.now a.asked.now items _ (length a.laid.taps.now) m a.flags.now c.book_rows.new.flags (front_same items front n long o.same_but_order) a.nodes.now p.taps c.fill_items.ensures
    (front_ordered items front n long o.same_but_order (length a.nodes.now) m most (subst (λ (k : ℕ). Ordered (key_in (take n items)) (order_in front) (length a.nodes.now) k m) cut o.upper_bound.1))
    p.on_flags p.no_flag c.book_rows.ensures
