use Rattle.std.proofs.Common.{◌≡◌, ◌++◌, ap, length, take, get_or, ℕ, List, arith, sym, ◌∙◌, le_refl}
use Rattle.std.specs.List.{flat_map}
use Rattle.std.proofs.lemmas.List.{take_all}
use Rattle.sf_value.specs.Spelling.{spelled_byte}
use Rattle.sf_value.proofs.Spelled.{kept-more, spelled-before, spelled-more}
use Rattle.sf_value.proofs.spelling.push_bytes.Goals as goal

pub loop-to-preserved : goal.loop-to-preserved
loop-to-preserved c =
    let rest = c.loop-to.rest.now in
    let end = c.alone_len-end.result in
    let within = c.alone_len-end.ensures.within in
    let byte = spelled_byte (get_or rest end 0) in
    let front : flat_map spelled_byte (take end rest) ≡ take end rest = spelled-before end rest within c.alone_len-end.ensures.alone in
    let pushed = c.in_ok-extend_from_slice.ensures.items in
    let now = c.in_ok-push_byte.ensures.ok ∙ ap (λ (front : List ℕ). front ++ byte) pushed in
    record {
      spelled =
          spelled-more c.args.to.now.items c.args.text.now c.loop-to.to.items _ rest _ end (omega (arith, within, c.if-end-rest.false)) c.loop-to.invariant.spelled
          (rw front now) c.behind-rest.ensures;
      kept = kept-more c.args.to.now.items c.loop-to.to.items _ _ _ c.loop-to.invariant.kept now;
    }

pub returns-then-end-rest-clause-ok : goal.returns-then-end-rest-clause-ok
returns-then-end-rest-clause-ok c =
    let rest = c.loop-to.rest.now in
    let whole = spelled-before (length rest) rest (le_refl (length rest)) (λ k below. c.alone_len-end.ensures.alone k (omega (arith, c.if-end-rest.true))) in
    let spelled : flat_map spelled_byte rest ≡ rest = rw (take_all (length rest) rest (le_refl (length rest))) at whole in
    c.in_ok-extend_from_slice.ensures.items
    ∙ ap (λ (back : List ℕ). c.loop-to.to.items ++ back) (rw (c.if-end-rest.true, take_all (length rest) rest (le_refl (length rest))) (sym spelled)) ∙ c.loop-to.invariant.spelled
