use Rattle.std.proofs.Common.{take}
use Rattle.script_text.proofs.Splitting.{told-more, words_of-at}
use Rattle.script_text.proofs.words.closes_words.Goals as goal

pub loop-rest-preserved : goal.loop-rest-preserved
loop-rest-preserved c =
    let rest = c.without_blanks-rest-in-Some in
    let word = words_of-at c.as_bytes.result.now c.loop-rest.rest.now c.range_from.result.now c.in-Some.end c.as_bytes.ensures.value
    c.range_from.ensures.value c.in-Some.ensures.word in
    record {
      words = told-more c.args.line.now c.loop-rest.rest.now c.range_from.result.now rest.result.now (take c.in-Some.end c.loop-rest.rest.now)
          c.loop-rest.invariant.words word rest.ensures.words;
      utf8 = rest.utf8;
      first = rest.ensures.first;
    }
