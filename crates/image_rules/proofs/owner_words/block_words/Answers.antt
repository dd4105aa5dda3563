use Rattle.std.proofs.Common.{⊎_elim, ◌<◌, ◌≤◌, ◌∙◌, rules}
use Rattle.std.proofs.lemmas.Bool.{cases_lt, true≢false}
use Rattle.image_rules.proofs.BlockSizes.{small_size}
use Rattle.image_rules.proofs.owner_words.block_words.Goals as goal

pub returns-in-Some : goal.returns-in-Some
returns-in-Some c =
    let few : c.args.count ≤ 256 = ⊎_elim (λ (many : 256 < c.args.count). absurd (true≢false (c.in-Some.ensures.none.1 many))) (λ le. le) (cases_lt 256 c.args.count) in
    c.class_words.ensures ∙ small_size c.args.count c.in-Some.class few c.in-Some.ensures.least

pub returns-in-None : goal.returns-in-None
returns-in-None c = search rules
