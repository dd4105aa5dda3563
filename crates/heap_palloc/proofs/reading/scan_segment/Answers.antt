use Rattle.std.proofs.Common.{◌≡◌, ◌≢◌, ◌⊎◌, inl, inr, ℕ, ◌+◌, ◌*◌, ◌≤◌, ◌++◌, map, false, get_or, refl, sym, ◌∙◌, ap, subst, arith}
use Rattle.std.specs.Vec.{vec_len, vec_capacity}
use Rattle.std.specs.List.{range_with_len}
use Rattle.image_layout.specs.Blocks.{descriptor_of, says_small}
use Rattle.heap_palloc.proofs.Scans.{inside_step, small_hit, small_miss, value_more, small_done}
use Rattle.heap_palloc.proofs.reading.scan_segment.Goals as goal
use Rattle.heap_palloc.proofs.reading.scan_segment.Goals.{then-inside-eq0+then-is_small, else-inside-eq0, else-inside-eq0-via-then-inside-eq0+else-is_small, else-inside-eq0-via-else-inside-eq0}

pub loop-page-preserved : goal.loop-page-preserved
loop-page-preserved g c =
    let inv = c.loop-page.invariant in
    let value : c.load-value.result ≡ descriptor_of (g.M.Memory.device c.args.mem.now).cached (64 * c.args.segment + c.loop-page.page) = c.load-value.ensures ∙ ap (λ (w : ℕ). get_or (g.M.Memory.device c.args.mem.now).cached w 0) c.descriptor.ensures in
    let inside = inside_step (g.M.Memory.device c.args.mem.now).cached c.args.segment c.loop-page.page c.loop-page.inside c.load-value.result c.left_behind-inside.result (omega (arith, c.loop-page-test.true)) inv.inside value c.left_behind-inside.ensures in
    let descriptors = value_more (g.M.Memory.device c.args.mem.now).cached c.args.segment c.loop-page.page c.load-value.result c.args.scan.now.descriptors.items c.loop-page.scan.descriptors.items c.push_reserved.new.self.items value inv.descriptors c.push_reserved.ensures.items in
    elim c.if-inside-eq0.branch [
      | then-inside-eq0+then-is_small w ↦
          let small = small_hit (g.M.Memory.device c.args.mem.now).cached c.args.segment c.loop-page.page c.loop-page.inside c.load-value.result (64 * c.args.segment + c.loop-page.page) c.args.scan.now.small.items c.loop-page.scan.small.items
          w.push_reserved-then-is_small.new.self.items (omega (arith, c.loop-page-test.true)) inv.inside value refl inv.small w.if-inside-eq0.true (sym w.is_small.ensures ∙ w.if-is_small.true) w.push_reserved-then-is_small.ensures.items in
          record {
            inside = inside;
            descriptors = ap (λ s. s.descriptors.items) w.scan-is ∙ descriptors;
            small = ap (λ s. s.small.items) w.scan-is ∙ small;
            length = ap (λ s. vec_len s.descriptors) w.scan-is ∙ omega (arith, c.push_reserved.ensures.len, inv.length);
            more = subst (λ n. n ≤ vec_len c.args.scan.now.small + (c.loop-page.page + 1)) (sym (ap (λ s. vec_len s.small) w.scan-is)) (omega (arith, w.push_reserved-then-is_small.ensures.len, inv.more));
            capacity = ap (λ s. vec_capacity s.descriptors) w.scan-is ∙ c.push_reserved.ensures.capacity ∙ inv.capacity;
            small_capacity = ap (λ s. vec_capacity s.small) w.scan-is ∙ w.push_reserved-then-is_small.ensures.capacity ∙ inv.small_capacity;
          }
      | else-inside-eq0 w ↦
          let why : (c.loop-page.inside ≢ 0) ⊎ (says_small c.load-value.result ≡ false) = elim w.else-inside-eq0.branch [
            | else-inside-eq0-via-then-inside-eq0+else-is_small w' ↦ inr (sym w'.is_small.ensures ∙ w'.if-is_small.false)
            | else-inside-eq0-via-else-inside-eq0 w' ↦ inl w'.if-inside-eq0.false
          ] in
          let small = small_miss (g.M.Memory.device c.args.mem.now).cached c.args.segment c.loop-page.page c.loop-page.inside c.load-value.result c.args.scan.now.small.items c.loop-page.scan.small.items
          (omega (arith, c.loop-page-test.true)) inv.inside value inv.small why in
          record {
            inside = inside;
            descriptors = ap (λ s. s.descriptors.items) w.scan-is ∙ descriptors;
            small = ap (λ s. s.small.items) w.scan-is ∙ small;
            length = ap (λ s. vec_len s.descriptors) w.scan-is ∙ omega (arith, c.push_reserved.ensures.len, inv.length);
            more = subst (λ n. n ≤ vec_len c.args.scan.now.small + (c.loop-page.page + 1)) (sym (ap (λ s. vec_len s.small) w.scan-is)) (omega (arith, inv.more));
            capacity = ap (λ s. vec_capacity s.descriptors) w.scan-is ∙ c.push_reserved.ensures.capacity ∙ inv.capacity;
            small_capacity = ap (λ s. vec_capacity s.small) w.scan-is ∙ inv.small_capacity;
          }
    ]

pub returns-clause-small : goal.returns-clause-small
returns-clause-small g c = small_done (g.M.Memory.device c.args.mem.now).cached (64 * c.args.segment) c.loop-page.page 64 c.args.scan.now.small.items c.loop-page.scan.small.items (omega (arith, c.loop-page-test.false, c.loop-page.auto.page-end)) c.loop-page.invariant.small

pub returns-clause-descriptors : goal.returns-clause-descriptors
returns-clause-descriptors g c =
    let words = (g.M.Memory.device c.args.mem.now).cached in
    let all : c.loop-page.page ≡ 64 = omega (arith, c.loop-page-test.false, c.loop-page.auto.page-end) in
    c.loop-page.invariant.descriptors ∙ ap (λ (n : ℕ). c.args.scan.now.descriptors.items ++ map (descriptor_of words) (range_with_len (64 * c.args.segment) n)) all
