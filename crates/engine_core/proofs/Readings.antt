-- What the open transaction reads.
use Rattle.std.proofs.Common.{◌≡◌, ℕ, ◌+◌, ◌-◌, ◌≤◌, ◌∙◌, Bool, true, false, not, ◌&&◌, ◌||◌, cond, List, [], ◌∷◌, ◌++◌, map, take, get_or, Option, None, Some, refl, ap, sym, subst, arith}
use Rattle.std.specs.Prelude.{option_map}
use Rattle.std.specs.Option.{option_map_or}
use Rattle.std.specs.List.{find, list_any, range_with_len}
use Rattle.std.proofs.lemmas.List.{map-append, take-append-le, take_all}
use Rattle.image_layout.proofs.Ranges.{range_append}
use Rattle.mv_model.specs.State.{CreatedRow, WriteSet}
use Rattle.mv_model.specs.View.{created_rows, ended_rows, is_key_of}
use Rattle.mv_model.specs.declared.value.Value.TheVariants.{Int}
use Rattle.mv_model.specs.declared.reply.Reply.{Reply}
use Rattle.mv_model.specs.declared.reply.Reply.TheVariants as reply
use Rattle.mv_model.specs.Answer.{answer}
use Rattle.image_layout.specs.Fixed.{last_at}
use Rattle.stage_view.specs.StageView.{view_of}
use Rattle.engine_core.specs.Stage.{born_at, ended_at, value_at}
use Rattle.engine_core.specs.StageRules.{IsStage}
use Rattle.engine_core.specs.Served.{get_of}
use Rattle.engine_core.specs.Decided.{IsDecided, TakesMemory}
use Rattle.engine_core.specs.LogicalState.{commit_of, commits_in, created_row, integer_of, is_seen, key_of, rows_where, state_of, within, writes_in}
use Rattle.engine_core.specs.declared.transactions.Transactions.{Transactions}
use Rattle.engine_core.specs.declared.transactions.Running.{Running}
use Rattle.engine_core.proofs.Rows.{created-found, ended-found, length-commits_in}
use Rattle.engine_core.proofs.Decisions.{refused}

-- what a transaction with this snapshot reads of the commits
take-commits_in : (words : List ℕ) (snapshot count : ℕ) → snapshot ≤ count → take snapshot (commits_in words count) ≡ commits_in words snapshot
take-commits_in words snapshot count few =
    let all : snapshot + (count - snapshot) ≡ count = omega (arith, few) in
    let size = length-commits_in words snapshot in
    let rest = map (commit_of words) (range_with_len (1 + snapshot) (count - snapshot)) in
    ap (λ (n : ℕ). take snapshot (commits_in words n)) (sym all)
    ∙ ap (λ (numbers : List ℕ). take snapshot (map (commit_of words) numbers)) (range_append 1 snapshot (count - snapshot))
    ∙ ap (take snapshot) (map-append (commit_of words) (range_with_len 1 snapshot) (range_with_len (1 + snapshot) (count - snapshot)))
    ∙ take-append-le snapshot (commits_in words snapshot) rest (omega (arith, size))
    ∙ take_all snapshot (commits_in words snapshot) (omega (arith, size))

module _ (words : List ℕ) (begun : ℕ) (own : Running) (row : ℕ) where
  abbrev reading : List WriteSet → Type 0
  reading sets =
      option_map_or reply.Values (cond (list_any (is_key_of 0 row) (ended_rows sets)) None
      (option_map (λ created. created.values) (find (λ created. is_key_of 0 row created.key) (created_rows sets)))) reply.NoRow
      ≡ cond (is_seen words 0 own.snapshot row) (reply.Values (Int (integer_of (get_or words (value_at row) 0)) ∷ [])) reply.NoRow

  found : (is_row ended created : Bool)
      → option_map_or reply.Values (cond (ended && is_row) None (option_map (λ (made : CreatedRow). made.values) (cond (created && is_row) (Some (created_row words row)) None))) reply.NoRow
      ≡ cond (is_row && (not ended && created)) (reply.Values (Int (integer_of (get_or words (value_at row) 0)) ∷ [])) reply.NoRow
  found true true created = refl
  found true false true = refl
  found true false false = refl
  found false true true = refl
  found false true false = refl
  found false false true = refl
  found false false false = refl

  -- one of the commits that it reads, or the transaction itself, ended the row, and one created it
  abbrev is_ended : Bool
  is_ended = within 1 own.snapshot (get_or words (ended_at row) 0) || (view_of words).ends 0 0 row

  abbrev is_created : Bool
  is_created = within 1 own.snapshot (get_or words (born_at row) 0) || (view_of words).creates 0 0 row

  read_sets-read : reading (commits_in words own.snapshot ++ writes_in words 0 ∷ [])
  read_sets-read =
      let sets = commits_in words own.snapshot ++ writes_in words 0 ∷ [] in
      let made = (view_of words).creates 0 0 in
      let gone = (view_of words).ends 0 0 in
      ap (λ (b : Bool). option_map_or reply.Values (cond b None (option_map (λ (made : CreatedRow). made.values) (find (λ created. is_key_of 0 row created.key) (created_rows sets)))) reply.NoRow)
      (ended-found words (map (created_row words) (rows_where made)) gone row own.snapshot)
      ∙ ap (λ (o : Option CreatedRow). option_map_or reply.Values (cond (is_ended && within 0 4096 row) None (option_map (λ (made : CreatedRow). made.values) o)) reply.NoRow)
      (created-found words (map key_of (rows_where gone)) made row own.snapshot)
      ∙ found (within 0 4096 row) is_ended is_created

  abbrev before : Transactions
  before = record { begun = begun; running = Some own }

  -- the reading of a row is answered by its value where the transaction sees it
  get-due : IsStage words (Some own) → answer (state_of words before) 1 (get_of row)
      ≡ cond (is_seen words 0 own.snapshot row) (reply.Values (Int (integer_of (get_or words (value_at row) 0)) ∷ [])) reply.NoRow
  get-due stage =
      let read = take-commits_in words own.snapshot (get_or words last_at 0) stage.reads in
      subst (λ (sets : List WriteSet). reading (sets ++ writes_in words 0 ∷ [])) (sym read) read_sets-read

  pub get-seen : IsStage words (Some own) → is_seen words 0 own.snapshot row ≡ true
      → IsDecided words before (get_of row) (reply.Values (Int (integer_of (get_or words (value_at row) 0)) ∷ [])) [] before
  get-seen stage seen =
      refused words before (get_of row) (reply.Values (Int (integer_of (get_or words (value_at row) 0)) ∷ [])) stage
      (sym (get-due stage ∙ ap (λ (b : Bool). cond b (reply.Values (Int (integer_of (get_or words (value_at row) 0)) ∷ [])) reply.NoRow) seen)) refl tt refl tt

  pub get-unseen : IsStage words (Some own) → is_seen words 0 own.snapshot row ≡ false
      → IsDecided words before (get_of row) reply.NoRow [] before
  get-unseen stage unseen =
      refused words before (get_of row) reply.NoRow stage
      (sym (get-due stage ∙ ap (λ (b : Bool). cond b (reply.Values (Int (integer_of (get_or words (value_at row) 0)) ∷ [])) reply.NoRow) unseen)) refl tt refl tt

  -- the reading of a row that is seen takes memory
  pub get-takes : IsStage words (Some own) → is_seen words 0 own.snapshot row ≡ true
      → TakesMemory (state_of words before) (answer (state_of words before) 1 (get_of row))
  get-takes stage seen =
      subst (λ (given : Reply). TakesMemory (state_of words before) given)
      (sym (get-due stage ∙ ap (λ (b : Bool). cond b (reply.Values (Int (integer_of (get_or words (value_at row) 0)) ∷ [])) reply.NoRow) seen)) refl
