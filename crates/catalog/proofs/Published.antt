-- The published tables of words that show a creation: those before it, and where it is done the new one behind them.
use Rattle.std.proofs.Common.{◌≡◌, inl, ⊎_elim, ℕ, zero, suc, ◌+◌, ◌-◌, ◌*◌, ◌/◌, ◌^◌, ◌%◌, ◌<◌, ◌≤◌, not, cond, eqb, List, [], ◌∷◌, ◌++◌, map, take_while, get_or, refl, sym, ◌∙◌, ap, arith}
use Rattle.std.specs.List.{range_with_len}
use Rattle.std.proofs.lemmas.Bool.{cases_Bool, cases_lt}
use Rattle.mv_model.specs.declared.shape.Column.{Column}
use Rattle.image_layout.specs.Fixed.{table_slot_at, version_at}
use Rattle.image_layout.specs.Places.{below, packed_byte, place_in}
use Rattle.image_layout.specs.Records.{extension_column_at, inner_columns_at, table_name_at, table_words}
use Rattle.image_layout.specs.Tables.{table_count, table_block, columns_of, column_count, column_record, extension_count, extension_of, extension_pointer_at, inner_columns, is_first_version, is_text}
use Rattle.image_layout.specs.EntryRules.{KeepsEntryRules}
use Rattle.image_layout.specs.Owners.{OwnersAreApart}
use Rattle.image_layout.proofs.OwnersApart.{LiveAt}
use Rattle.image_layout.proofs.TableParts.{extension_live, extension_some, first_inner, inner_record, outer_record, table_live}
use Rattle.image_layout.proofs.Ranges.{map_same}
use Rattle.heap_palloc.specs.Choice.{choice_page, choice_pages}
use Rattle.heap_palloc.specs.Law.{IsElsewhere}
use Rattle.shown_state.specs.LogicalState.{name_at, column_of, kind_of}
use Rattle.shown_state.proofs.Walks.{pointers_name_their_place}
use Rattle.catalog.specs.Entries.{CatalogTable, HasNames, published_table, published_tables}
use Rattle.catalog.specs.Creation.{Creation, new_block}
use Rattle.catalog.specs.Shown.{IsCreated, IsUncreated, IsUntouched, KeepsUntouched, MayCreateOn, new_table}
use Rattle.catalog.proofs.Filling.{length-table_record}
use Rattle.catalog.proofs.Lists.{column_same, map_next}
use Rattle.catalog.proofs.OldBlocks.{old_word}
use Rattle.catalog.proofs.ReadBack.{name_bytes, table_name_back, columns_back}
use Rattle.catalog.proofs.Surviving.{block_high, fixed_elsewhere, lane_low}

-- numbers below one that two functions don't tell apart
pub same_below : {X : Type 0} (f g : ℕ → X) (n : ℕ) → ((k : ℕ) → k < n → f k ≡ g k) → map f (below n) ≡ map g (below n)
same_below f g n each = map_same f g 0 n (λ k le lt. each k (omega (arith, lt)))

mapped_below : {X : Type 0} (f g : ℕ → X) (h i : ℕ → ℕ) (a n : ℕ) → ((k : ℕ) → k < n → f (h (a + k)) ≡ g (i (a + k))) → map f (map h (range_with_len a n)) ≡ map g (map i (range_with_len a n))
mapped_below f g h i a zero each = refl
mapped_below {X} f g h i a (suc n) each =
    let first : f (h a) ≡ g (i a) = ap (λ (p : ℕ). f (h p)) (here a) ∙ each 0 (omega arith) ∙ ap (λ (p : ℕ). g (i p)) (sym (here a)) in
    let rest = mapped_below f g h i (a + 1) n (λ k lt. ap (λ (p : ℕ). f (h p)) (there a k) ∙ each (suc k) (omega (arith, lt)) ∙ ap (λ (p : ℕ). g (i p)) (sym (there a k))) in
    ap (λ (x : X). x ∷ map f (map h (range_with_len (a + 1) n))) first ∙ ap (λ (xs : List X). g (i a) ∷ xs) rest
  where
    here : (p : ℕ) → p ≡ p + 0
    here p = omega arith

    there : (p k : ℕ) → p + 1 + k ≡ p + suc k
    there p k = omega arith

-- ── what the words of a table's block say ──

name_same : (old new : List ℕ) (place : ℕ) → ((k : ℕ) → k < 3 → get_or new (place + k) 0 ≡ get_or old (place + k) 0) → name_at new place ≡ name_at old place
unfolding name_at
name_same old new place each =
    ap (take_while (λ (byte : ℕ). not (eqb byte 0))) (same_below (packed_byte new place) (packed_byte old place) 24 (λ byte lt.
    ap (λ (word : ℕ). word / 2 ^ (8 * (byte % 8)) % 256) (each (byte / 8) (omega (arith, lt)))))

table_parts_same : (a b : List ℕ) (c d : List Column) (e f : ℕ) → a ≡ b → c ≡ d → e ≡ f → ◌≡◌ {A = CatalogTable} (record { name = a; columns = c; block = e }) (record { name = b; columns = d; block = f })
table_parts_same a b c d e f same_name same_columns same_block = ap (λ (n : List ℕ). with n c e) same_name ∙ ap (λ (cs : List Column). with b cs e) same_columns ∙ ap (λ (p : ℕ). with b d p) same_block
  where
    with : List ℕ → List Column → ℕ → CatalogTable
    with n cs p = record { name = n; columns = cs; block = p }

-- The words of a table are the same: the version, those of its block, and those of its extensions.
pub record HasSameWords (old new : List ℕ) (block : ℕ) : Type 0 where
  pub version : get_or new version_at 0 ≡ get_or old version_at 0
  pub inside : (k : ℕ) → k < table_words (inner_columns old block) → get_or new (block + k) 0 ≡ get_or old (block + k) 0
  pub behind : (extension : ℕ) → extension < extension_count old block → (k : ℕ) → k < 48 → get_or new (extension_of old block extension + k) 0 ≡ get_or old (extension_of old block extension + k) 0

module _ (old new : List ℕ) (block : ℕ) (same : HasSameWords old new block) where
  at_block : (at k : ℕ) → at ≡ block + k → k < table_words (inner_columns old block) → get_or new at 0 ≡ get_or old at 0
  at_block at k is lt = ap (λ (p : ℕ). get_or new p 0) is ∙ same.inside k lt ∙ ap (λ (p : ℕ). get_or old p 0) (sym is)

  at_extension : (extension at k : ℕ) → extension < extension_count old block → at ≡ extension_of old block extension + k → k < 48 → get_or new at 0 ≡ get_or old at 0
  at_extension extension at k lt is few = ap (λ (p : ℕ). get_or new p 0) is ∙ same.behind extension lt k few ∙ ap (λ (p : ℕ). get_or old p 0) (sym is)

  block_name_same : name_at new (table_name_at block) ≡ name_at old (table_name_at block)
  block_name_same = name_same old new (table_name_at block) (λ k lt. at_block (block + 2 + k) (2 + k) (omega arith) (omega (arith, lt)))

  count_same : column_count new block ≡ column_count old block
  count_same = at_block block 0 (omega arith) (omega arith)

  inner_same : inner_columns new block ≡ inner_columns old block
  unfolding inner_columns
  inner_same =
      let inner : get_or new (inner_columns_at block) 0 ≡ get_or old (inner_columns_at block) 0 = at_block (block + 6) 6 (omega arith) (omega arith) in
      ap (λ (version : ℕ). cond (eqb version 1) (column_count new block) (get_or new (inner_columns_at block) 0)) same.version
      ∙ ap (λ (count : ℕ). cond (is_first_version old) count (get_or new (inner_columns_at block) 0)) count_same
      ∙ ap (λ (count : ℕ). cond (is_first_version old) (column_count old block) count) inner

  word_same : (extension : ℕ) → extension < extension_count old block → get_or new (extension_pointer_at old block extension) 0 ≡ get_or old (extension_pointer_at old block extension) 0
  word_same zero lt = at_block (block + 5) 5 (omega arith) (omega arith)
  word_same (suc extension) lt = at_extension extension (extension_of old block extension) 0 (omega (arith, lt)) (omega arith) (omega arith)

  pointer_same : (extension : ℕ) → extension ≤ extension_count old block → extension_pointer_at new block extension ≡ extension_pointer_at old block extension
  pointer_same zero le = refl
  pointer_same (suc extension) le =
      ap (λ (at : ℕ). place_in (get_or new at 0)) (pointer_same extension (omega (arith, le))) ∙ ap place_in (word_same extension (omega (arith, le)))

  extension_same : (extension : ℕ) → extension < extension_count old block → extension_of new block extension ≡ extension_of old block extension
  extension_same extension lt = pointer_same (suc extension) (omega (arith, lt))

  -- the record of a column stands where it stood, and has the words that it had
  record RecordStands (number : ℕ) : Type 0 where
    pub at : column_record new block number ≡ column_record old block number
    pub words : (k : ℕ) → k < 40 → get_or new (column_record old block number + k) 0 ≡ get_or old (column_record old block number + k) 0

  record_stands : (number : ℕ) → number < column_count old block → RecordStands number
  record_stands number lt = ⊎_elim
      (λ inside.
      let now = inner_record new block number (omega (arith, inside, inner)) in
      let before = inner_record old block number inside in
      record { at = now ∙ sym before; words = λ k few. at_block (column_record old block number + k) (40 + 40 * number + k) (omega (arith, before)) (omega (arith, inside, few)) })
      (λ outside.
      let now = outer_record new block number (omega (arith, outside, inner)) in
      let before = outer_record old block number outside in
      let extension : ℕ = number - inner_columns old block in
      let here : extension < extension_count old block = omega (arith, lt, outside) in
      record {
        at = now ∙ ap (λ (n : ℕ). extension_column_at (extension_of new block (number - n))) inner ∙ ap extension_column_at (extension_same extension here) ∙ sym before;
        words = λ k few. at_extension extension (column_record old block number + k) (8 + k) here (omega (arith, before)) (omega (arith, few));
      })
      (cases_lt number (inner_columns old block))
    where
      inner : inner_columns new block ≡ inner_columns old block
      inner = inner_same

  block_columns_same : map (column_of new) (columns_of new block) ≡ map (column_of old) (columns_of old block)
  block_columns_same =
      ap (λ (n : ℕ). map (column_of new) (map (column_record new block) (below n))) count_same
      ∙ mapped_below (column_of new) (column_of old) (column_record new block) (column_record old block) 0 (column_count old block) (λ k lt. one k (0 + k) (omega arith) lt)
    where
      one : (k j : ℕ) → j ≡ k → k < column_count old block → column_of new (column_record new block j) ≡ column_of old (column_record old block j)
      one k j e lt =
          let at = column_record old block j in
          let stands = record_stands j (omega (arith, e, lt)) in
          let word : (i w : ℕ) → w ≡ at + i → i < 40 → get_or new w 0 ≡ get_or old w 0 = λ i w is few. ap (λ (p : ℕ). get_or new p 0) is ∙ stands.words i few ∙ ap (λ (p : ℕ). get_or old p 0) (sym is) in
          ap (column_of new) stands.at
          ∙ column_same (name_at new (at + 1)) (name_at old (at + 1)) (kind_of (is_text new at)) (kind_of (is_text old at))
          (name_same old new (at + 1) (λ i few. word (1 + i) (at + 1 + i) (omega arith) (omega (arith, few))))
          (ap (λ (w : ℕ). kind_of (eqb w 2)) (word 0 at (omega arith) (omega arith)))

table_same : (old new : List ℕ) (table : ℕ) → get_or new (table_slot_at table) 0 ≡ get_or old (table_slot_at table) 0
    → HasSameWords old new (table_block old table) → published_table new table ≡ published_table old table
table_same old new table slot same =
    let here : table_block new table ≡ table_block old table = ap place_in slot in
    table_parts_same (name_at new (table_name_at (table_block new table))) (name_at old (table_name_at (table_block old table)))
    (map (column_of new) (columns_of new (table_block new table))) (map (column_of old) (columns_of old (table_block old table)))
    (table_block new table) (table_block old table)
    (ap (λ (b : ℕ). name_at new (table_name_at b)) here ∙ block_name_same old new (table_block old table) same)
    (ap (λ (b : ℕ). map (column_of new) (columns_of new b)) here ∙ block_columns_same old new (table_block old table) same)
    here

-- ── the tables before, and after ──

module _ (base : List ℕ) (c : Creation) (on : MayCreateOn base c) (keeps : KeepsEntryRules base) (apart : OwnersAreApart base) (words : List ℕ) (kept : KeepsUntouched base c words) where
  old_slot : (table : ℕ) → table < table_count base → IsUntouched base c (table_slot_at table)
  old_slot table lt =
      let few = on.may.count in
      let lane = lane_low base c on in
      let high = block_high base c on in
      record {
        lane = slot_elsewhere c.lane lane;
        lane_zero = slot_elsewhere 0 (omega arith);
        no_count = λ e. omega (arith, e);
        no_record = inl (omega (arith, lt, few, high));
      }
    where
      slot_elsewhere : (lane : ℕ) → lane < 16 → IsElsewhere lane (table_slot_at (table_count base)) (choice_page c.choice) (choice_pages c.choice) (table_slot_at table)
      slot_elsewhere lane low = fixed_elsewhere base c on lane (table_slot_at table) (omega arith) (omega (arith, lt, on.may.count)) (λ e. omega (arith, e, lt))

  -- a word of a live block
  live_kept : (place count : ℕ) → LiveAt base place count → (k : ℕ) → k < count → get_or words (place + k) 0 ≡ get_or base (place + k) 0
  live_kept place count live k within =
      kept.each (place + k) (old_word base c on live.block live.live (place + k) (omega (arith, live.first)) (omega (arith, live.first, live.size, within)) (lane_low base c on))

  -- a word of a published table's block
  pub block_kept : (table : ℕ) → table < table_count base → (k : ℕ) → k < table_words (inner_columns base (table_block base table)) → get_or words (table_block base table + k) 0 ≡ get_or base (table_block base table + k) 0
  block_kept table lt k within =
      let has = table_live base keeps.reserved keeps.descriptors keeps.table_count keeps.table_slots apart table lt in
      let holds = has.holds in
      live_kept (table_block base table) has.size has.live k (omega (arith, holds, within))

  -- a word of one of its extensions
  extension_kept : (table extension : ℕ) → table < table_count base → extension < extension_count base (table_block base table) → (k : ℕ) → k < 48
      → get_or words (extension_of base (table_block base table) extension + k) 0 ≡ get_or base (extension_of base (table_block base table) extension + k) 0
  extension_kept table extension lt here k few = ⊎_elim
      (λ first. absurd (let none = first_inner base (table_block base table) first in omega (arith, here, none)))
      (λ second.
      let some = extension_some base keeps.reserved keeps.descriptors keeps.table_count keeps.table_slots apart table extension lt second here in
      let live = extension_live base keeps.reserved keeps.descriptors keeps.table_count keeps.table_slots apart table extension lt second (omega (arith, here)) some in
      live_kept (extension_of base (table_block base table) extension) 64 live k (omega (arith, few)))
      (cases_Bool (is_first_version base))

  version_kept : get_or words version_at 0 ≡ get_or base version_at 0
  version_kept = kept.each version_at (record {
    lane = fixed_elsewhere base c on c.lane version_at (omega arith) (omega arith) (λ e. omega (arith, e));
    lane_zero = fixed_elsewhere base c on 0 version_at (omega arith) (omega arith) (λ e. omega (arith, e));
    no_count = λ e. omega (arith, e);
    no_record = let high = block_high base c on in inl (omega (arith, high));
  })

  words_same : (table : ℕ) → table < table_count base → HasSameWords base words (table_block base table)
  words_same table lt = record { version = version_kept; inside = block_kept table lt; behind = λ extension here. extension_kept table extension lt here }

  pub old_table : (table : ℕ) → table < table_count base → published_table words table ≡ published_table base table
  old_table table lt = table_same base words table (kept.each (table_slot_at table) (old_slot table lt)) (words_same table lt)

  pub old_tables : map (published_table words) (below (table_count base)) ≡ published_tables base
  old_tables = same_below (published_table words) (published_table base) (table_count base) old_table

pub tables_before : (base : List ℕ) (c : Creation) (words : List ℕ) → MayCreateOn base c → KeepsEntryRules base → OwnersAreApart base → IsUncreated base c words → published_tables words ≡ published_tables base
tables_before base c words on keeps apart is =
    ap (λ (n : ℕ). map (published_table words) (below n)) is.count ∙ old_tables base c on keeps apart words is.keeps

-- the new table reads back
pub new_published : (base : List ℕ) (c : Creation) (words : List ℕ) → HasNames c.name c.columns → IsCreated base c words → published_table words (table_count base) ≡ new_table c
new_published base c words named is =
    let size = length-table_record c.name c.columns in
    let here : table_block words (table_count base) ≡ new_block c = ap place_in is.slot ∙ pointers_name_their_place (new_block c) in
    table_parts_same (name_at words (table_name_at (table_block words (table_count base)))) c.name (map (column_of words) (columns_of words (table_block words (table_count base)))) c.columns (table_block words (table_count base)) (new_block c)
    (ap (λ (b : ℕ). name_at words (table_name_at b)) here ∙ table_name_back words (new_block c) c.name c.columns is.record_is size (name_bytes c.name named.name_is))
    (ap (λ (b : ℕ). map (column_of words) (columns_of words b)) here ∙ columns_back words (new_block c) c.name c.columns is.record_is size (λ k d lt. name_bytes (get_or c.columns k d).name (named.columns_are k d lt)))
    here

pub tables_after : (base : List ℕ) (c : Creation) (words : List ℕ) → MayCreateOn base c → HasNames c.name c.columns → KeepsEntryRules base → OwnersAreApart base → IsCreated base c words → published_tables words ≡ published_tables base ++ new_table c ∷ []
tables_after base c words on named keeps apart is =
    ap (λ (n : ℕ). map (published_table words) (below n)) is.count
    ∙ map_next (published_table words) (table_count base)
    ∙ ap (λ (tables : List CatalogTable). tables ++ published_table words (table_count base) ∷ []) (old_tables base c on keeps apart words is.keeps)
    ∙ ap (λ (table : CatalogTable). published_tables base ++ table ∷ []) (new_published base c words named is)
