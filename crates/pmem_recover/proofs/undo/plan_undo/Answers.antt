use Rattle.std.proofs.Common.{◌≡◌, ℕ, ◌<◌, ◌++◌, List, [], true, get_or, length, map, All, sym, ◌∙◌, ap, subst, arith}
use Rattle.std.specs.Prelude.{IsTrue}
use Rattle.std.specs.List.{flat_map}
use Rattle.std.proofs.lemmas.Bool.{eq-eqb}
use Rattle.std.proofs.lemmas.Result.{IfOk-weaker}
use Rattle.image_layout.specs.declared.place.Place.{Place}
use Rattle.image_layout.specs.Fixed.{state_at, commit_word_at}
use Rattle.image_layout.specs.Places.{below}
use Rattle.pm_model.specs.Plans.{plan_of}
use Rattle.image_layout.specs.Tables.{table_count}
use Rattle.image_layout.specs.Objects.{is_open, entry_places}
use Rattle.image_layout.specs.EntryRules.{is_entry}
use Rattle.shown_state.specs.Mending.{undo_entry}
use Rattle.pmem_recover.specs.declared.change.WordChange.{WordChange}
use Rattle.pmem_recover.specs.Changes.{change, change_part}
use Rattle.pmem_recover.specs.Undo.{words_at}
use Rattle.pmem_recover.proofs.Clearing.{filled-within}
use Rattle.pmem_recover.proofs.UndoRules.{entries-each}
use Rattle.pmem_recover.proofs.Undoing.{undo-planned, not-open, committed, raised, within-push}
use Rattle.pmem_recover.proofs.undo.plan_undo.Goals as goal
use Rattle.pmem_recover.proofs.undo.plan_undo.Goals.{then-load-ne-OPEN-via-then-load-ne-OPEN, then-load-ne-OPEN-via-else-load-ne-OPEN+then-load-ne0}

word_at : (words : List ℕ) (word at place : ℕ) → word ≡ get_or words at 0 → at ≡ place → word ≡ get_or words place 0
word_at words word at place is here = is ∙ ap (λ (k : ℕ). get_or words k 0) here

pub returns-then-load-ne-OPEN : goal.returns-then-load-ne-OPEN
returns-then-load-ne-OPEN g c =
    let words = (g.M.Memory.device c.args.mem.now).cached in
    IfOk-weaker c.with_room.result (λ plan. plan.left ≡ []) _ (λ plan empty. empty ∙ ap plan_of (sym (elim c.then-load-ne-OPEN.branch [
      | then-load-ne-OPEN-via-then-load-ne-OPEN w ↦ not-open words c.args.object (λ e. w.if-load-ne-OPEN.true (word_at words c.load.result c.object_state.result.0 (state_at c.args.object) c.load.ensures c.object_state.ensures ∙ e))
      | then-load-ne-OPEN-via-else-load-ne-OPEN+then-load-ne0 w ↦ committed words c.args.object
          (λ e. w.if-load-ne0.true (word_at words w.load-else-load-ne-OPEN.result w.commit_word.result.0 (commit_word_at c.args.object) w.load-else-load-ne-OPEN.ensures w.commit_word.ensures ∙ e))
    ]))) c.with_room.ensures.empty

pub push_stamps-requires-clause-in_image : goal.push_stamps-requires-clause-in_image
push_stamps-requires-clause-in_image g c =
    let words = (g.M.Memory.device c.args.mem.now).cached in
    subst (λ (places : List Place). All (λ at. at.0 < length words) places) (sym c.deref.ensures.value) (filled-within words c.in_ok-entries.entries.items (entry_places words c.args.object) c.in_ok-entries.ensures.places)

pub push_stamps-requires-clause-each : goal.push_stamps-requires-clause-each
push_stamps-requires-clause-each g c =
    let words = (g.M.Memory.device c.args.mem.now).cached in
    let opened : is_open words c.args.object ≡ true = eq-eqb _ 1 (sym (word_at words c.load.result c.object_state.result.0 (state_at c.args.object) c.load.ensures c.object_state.ensures) ∙ c.if-load-ne-OPEN.false) in
    subst (λ (places : List Place). All (λ at. IsTrue (is_entry words (get_or words at.0 0))) places) (sym c.deref.ensures.value) (entries-each words c.requires.rules c.args.object c.in_ok-entries.entries.items c.requires.object opened c.in_ok-entries.ensures.places)

pub push_bounds-requires-clause-in_image : goal.push_bounds-requires-clause-in_image
push_bounds-requires-clause-in_image g c =
    let words = (g.M.Memory.device c.args.mem.now).cached in
    subst (λ (places : List Place). All (λ at. at.0 < length words) places) (sym c.deref-2.ensures.value) (filled-within words c.in_ok-entries.entries.items (entry_places words c.args.object) c.in_ok-entries.ensures.places)

pub push_parts-requires-clause-in_image : goal.push_parts-requires-clause-in_image
push_parts-requires-clause-in_image g c =
    let words = (g.M.Memory.device c.args.mem.now).cached in
    let at : c.object_state-2.result.0 ≡ state_at c.args.object = c.object_state-2.ensures in
    subst (λ (cs : List WordChange). All (λ change. change.place.0 < length words) cs) (sym c.deref-3.ensures.value)
    (within-push (length words) c.push_bounds.new.changes.items c.push_reserved.new.self.items (change c.object_state-2.result.0 0) c.push_reserved.ensures.items
    (omega (arith, at, c.requires.object, (g.met.M.Memory.whole c.args.mem.now).one_or_more)) c.push_bounds.ensures.within)

pub returns : goal.returns
returns g c =
    let words = (g.M.Memory.device c.args.mem.now).cached in
    undo-planned words c.args.object c.len-first.result c.object_state-2.result c.in_ok-entries.entries.items c.push_bounds.new.changes.items c.deref-3.result.now (change_part c.push_stamps.new.changes.items) c.in_ok-plan.plan.left c.push_parts.new.plan.left
    (sym (word_at words c.load.result c.object_state.result.0 (state_at c.args.object) c.load.ensures c.object_state.ensures) ∙ c.if-load-ne-OPEN.false)
    (sym (word_at words c.load-else-load-ne-OPEN.result c.commit_word.result.0 (commit_word_at c.args.object) c.load-else-load-ne-OPEN.ensures c.commit_word.ensures) ∙ c.if-load-ne0.false)
    c.object_state-2.ensures c.in_ok-entries.ensures.places
    (c.push_stamps.ensures.part ∙ ap (λ (places : List Place). flat_map (undo_entry words) (words_at words places)) c.deref.ensures.value)
    (c.push_bounds.ensures.part ∙ ap (λ (places : List Place). change_part c.push_stamps.new.changes.items ++ map (raised words (words_at words places)) (below (table_count words))) c.deref-2.ensures.value)
    (omega (arith, c.len-first.ensures)) (c.deref-3.ensures.value ∙ c.push_reserved.ensures.items) c.in_ok-plan.ensures.empty c.in_ok-push_parts.ensures
