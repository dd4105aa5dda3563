use Rattle.std.proofs.Common.{sym, ap, ◌∙◌, ℕ, List, Bor, Ok}
use Rattle.std.proofs.lemmas.Result.{err_from_is_err_and}
use Rattle.script_text.specs.Words.{texts}
use Rattle.script_text.proofs.Spoken.{begins, no-statement, opens, speaker-fails, statement-fails, told, told-fails, unsaid, unspoken, untold}
use Rattle.script_text.proofs.line.read_text.Goals as goal

pub returns-then-not-has_words-clause-line : goal.returns-then-not-has_words-clause-line
returns-then-not-has_words-clause-line c =
    untold c.args.draft.now c.args.text.now c.if-not-has_words.ensures

pub returns-in_default-clause-line : goal.returns-in_default-clause-line
returns-in_default-clause-line c =
    unspoken c.args.draft.now c.args.text.now (told c.args.text.now c.if-not-has_words.ensures) c.in_default.ensures.none

pub returns-in_err-session-clause-line : goal.returns-in_err-session-clause-line
returns-in_err-session-clause-line c =
    let p = err_from_is_err_and c.from_residual.result c.from_residual.ensures.1 in
    rw (p.1, p.2)
    (speaker-fails c.in_err-session.field-0.0 c.args.draft.now c.args.text.now c.in-Some.rest.now c.in-Some.speaker.now
    (told c.args.text.now c.if-not-has_words.ensures) c.in-Some.ensures.some c.in_err-session.ensures.read)

pub returns-in_default-first_word-clause-line : goal.returns-in_default-first_word-clause-line
returns-in_default-first_word-clause-line c =
    unsaid c.args.draft.now c.args.text.now c.in-Some.rest.now c.in-Some.speaker.now c.in_ok-session.session
    (told c.args.text.now c.if-not-has_words.ensures) c.in-Some.ensures.some c.in_ok-session.ensures.read c.in_default-first_word.ensures.none

pub returns-in_default-read_verb-clause-line : goal.returns-in_default-read_verb-clause-line
returns-in_default-read_verb-clause-line c =
    let is = opens c.args.text.now c.in-Some.rest.now c.in-Some-first_word.rest.now c.in-Some.speaker.now c.in-Some-first_word.name.now c.in_ok-session.session
    (told c.args.text.now c.if-not-has_words.ensures) c.in-Some.ensures.some c.in_ok-session.ensures.read c.in-Some-first_word.ensures.some in
    no-statement c.args.draft.now c.args.text.now _ _ c.in_ok-session.session _ is c.in_default-read_verb.ensures

pub returns-in_err-words-clause-line : goal.returns-in_err-words-clause-line
returns-in_err-words-clause-line c =
    let is = opens c.args.text.now c.in-Some.rest.now c.in-Some-first_word.rest.now c.in-Some.speaker.now c.in-Some-first_word.name.now c.in_ok-session.session
    (told c.args.text.now c.if-not-has_words.ensures) c.in-Some.ensures.some c.in_ok-session.ensures.read c.in-Some-first_word.ensures.some in
    let p = err_from_is_err_and c.from_residual-in_err-words.result c.from_residual-in_err-words.ensures.1 in
    rw (p.1, p.2) (told-fails c.in_err-words.field-0.0 c.args.draft.now c.args.text.now _ _ c.in_ok-session.session _ is c.in_err-words.ensures.words)

pub returns-in_err-words-clause-memory : goal.returns-in_err-words-clause-memory
returns-in_err-words-clause-memory c =
    let is = opens c.args.text.now c.in-Some.rest.now c.in-Some-first_word.rest.now c.in-Some.speaker.now c.in-Some-first_word.name.now c.in_ok-session.session
    (told c.args.text.now c.if-not-has_words.ensures) c.in-Some.ensures.some c.in_ok-session.ensures.read c.in-Some-first_word.ensures.some in
    λ memory. begins c.args.text.now _ _ c.in_ok-session.session c.in-Some-read_verb.verb _ is c.utf8.text c.in-Some-read_verb.ensures

pub returns-in_err-statement-clause-line : goal.returns-in_err-statement-clause-line
returns-in_err-statement-clause-line c =
    let is = opens c.args.text.now c.in-Some.rest.now c.in-Some-first_word.rest.now c.in-Some.speaker.now c.in-Some-first_word.name.now c.in_ok-session.session
    (told c.args.text.now c.if-not-has_words.ensures) c.in-Some.ensures.some c.in_ok-session.ensures.read c.in-Some-first_word.ensures.some in
    let p = err_from_is_err_and c.from_residual-in_err-statement.result c.from_residual-in_err-statement.ensures.1 in
    rw (p.1, p.2)
    (statement-fails c.in_err-statement.field-0.0 c.args.draft.now c.args.text.now _ _ c.in_ok-session.session c.in-Some-read_verb.verb _ _ is c.in-Some-read_verb.ensures
    (c.in_ok-words.ensures.words ∙ ap (λ (held : List (Bor (List ℕ))). Ok (texts held)) (sym c.deref.ensures.value)) c.in_err-statement.ensures)

pub returns-in_err-statement-clause-memory : goal.returns-in_err-statement-clause-memory
returns-in_err-statement-clause-memory c =
    let is = opens c.args.text.now c.in-Some.rest.now c.in-Some-first_word.rest.now c.in-Some.speaker.now c.in-Some-first_word.name.now c.in_ok-session.session
    (told c.args.text.now c.if-not-has_words.ensures) c.in-Some.ensures.some c.in_ok-session.ensures.read c.in-Some-first_word.ensures.some in
    λ memory. begins c.args.text.now _ _ c.in_ok-session.session c.in-Some-read_verb.verb _ is c.utf8.text c.in-Some-read_verb.ensures

pub returns-clause-memory : goal.returns-clause-memory
returns-clause-memory c =
    let is = opens c.args.text.now c.in-Some.rest.now c.in-Some-first_word.rest.now c.in-Some.speaker.now c.in-Some-first_word.name.now c.in_ok-session.session
    (told c.args.text.now c.if-not-has_words.ensures) c.in-Some.ensures.some c.in_ok-session.ensures.read c.in-Some-first_word.ensures.some in
    λ memory. begins c.args.text.now _ _ c.in_ok-session.session c.in-Some-read_verb.verb _ is c.utf8.text c.in-Some-read_verb.ensures
