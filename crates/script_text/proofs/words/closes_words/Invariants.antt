use Rattle.std.proofs.Common.{◌≡◌, ◌<◌, false, get_or, length}
use Rattle.std.specs.Prelude.{IsUtf8, is_some}
use Rattle.script_text.specs.Words.{is_blank, words_of}
use Rattle.script_text.proofs.words.closes_words.Given as goal

abbrev pub invariant-loop-rest : goal.invariant-loop-rest
invariant-loop-rest l = record {
  words : is_some (words_of l.line) ≡ is_some (words_of l.rest);
  utf8 : IsUtf8 l.rest;
  first : 0 < length l.rest → is_blank (get_or l.rest 0 0) ≡ false;
}

abbrev pub decreases-loop-rest : goal.decreases-loop-rest
decreases-loop-rest l = length l.rest
