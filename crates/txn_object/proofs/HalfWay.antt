-- Once its segment was allocated, and before it is ready, an object may be extended as well.
use Rattle.std.proofs.Common.{◌≡◌, inr, eqb, ℕ, ◌<◌, List, get_or, sym, ◌∙◌, ap, subst, arith}
use Rattle.std.specs.Prelude.{Contains}
use Rattle.std.proofs.lemmas.Bool.{or_right}
use Rattle.image_layout.specs.Fixed.{ready_at}
use Rattle.image_layout.specs.Pointer.{pointer_word}
use Rattle.image_layout.specs.Places.{place_in, is_pointer_to}
use Rattle.pm_model.specs.Plans.{finished}
use Rattle.image_layout.specs.Blocks.{live_blocks}
use Rattle.image_layout.specs.Objects.{ready_count, segment_pointer_at, segment_of, pointer_after, entries}
use Rattle.heap_palloc.specs.Index.{HeapIndex, IsIndexOf}
use Rattle.heap_palloc.specs.Choice.{Choice, choice_parts, choice_block}
use Rattle.heap_palloc.proofs.RulesKept.{choice_rules}
use Rattle.heap_palloc.proofs.Stages.{place_in-pointer}
use Rattle.heap_palloc.proofs.Settled.{gained_live}
use Rattle.heap_palloc.proofs.Owners.{more_live}
use Rattle.txn_object.specs.Extension.{Source, owned, allocated, Extension, source_parts, segment_block, IsNoSegment, MayExtend}
use Rattle.txn_object.specs.Calls.{next_pointer, MayPlanExtension}
use Rattle.txn_object.specs.Shown.{IsUnextended}
use Rattle.txn_object.proofs.Frames.{pointer_same, segment_same}
use Rattle.txn_object.proofs.Taken.{StandsOn, source_stands}
use Rattle.txn_object.proofs.Extending.{unextended, new_pointer_sound, blocks_end, pointers_kept}
use Rattle.txn_object.proofs.Whole.{shown, changes, count_away, gains, at}

module _ (base : List ℕ) (object : ℕ) (choice : Choice) (may : MayExtend base (record { object = object; source = allocated choice })) (page : ℕ) (stands : StandsOn base (choice_block choice).first page) where
  abbrev now : List ℕ
  now = finished (choice_parts base choice) base

  abbrev segment : ℕ
  segment = (choice_block choice).first

  abbrev e : Extension
  e = record { object = object; source = allocated choice }

  half_is : IsUnextended base e now
  half_is =
      let here = shown base object choice may page stands in
      unextended base e may page stands now here.keeps.size (λ w away out other. here.keeps.each w away) (here.keeps.each (ready_at object) (count_away base object choice may page stands))
      (or_right (eqb (get_or now (pointer_after base object) 0) 0) (is_pointer_to now 256 (get_or now (pointer_after base object) 0))
      (ap (is_pointer_to now 256) here.word_is ∙ new_pointer_sound base e may page stands now here.keeps.size))
      (inr (record { blocks_are = sym (blocks_end base e may page stands now (at base object choice may page stands)); named = here.word_is }))

  count : ready_count now object ≡ ready_count base object
  count = let here = shown base object choice may page stands in here.keeps.each (ready_at object) (count_away base object choice may page stands)

  pointers : (k : ℕ) → k < ready_count base object → get_or now (segment_pointer_at base object k) 0 ≡ get_or base (segment_pointer_at base object k) 0
  pointers = let here = shown base object choice may page stands in pointers_kept base e may page stands now here.keeps.size (λ w away out other. here.keeps.each w away)

  segment_stays : (k : ℕ) → k < ready_count base object → segment_of now object k ≡ segment_of base object k
  segment_stays k lt = segment_same base now object (ready_count base object) pointers k lt

  next_named : next_pointer now object ≡ pointer_word segment
  next_named =
      let here = shown base object choice may page stands in
      ap (λ (n : ℕ). get_or now (segment_pointer_at now object n) 0) count
      ∙ ap (λ (w : ℕ). get_or now w 0) (pointer_same base now object (ready_count base object) pointers (ready_count base object) (omega arith))
      ∙ here.word_is

  next_place : place_in (next_pointer now object) ≡ segment
  next_place = ap place_in next_named ∙ place_in-pointer segment

  pub half_extends : (index : HeapIndex) → IsIndexOf now index → MayPlanExtension now index object
  half_extends index is = record {
    segments = record {
      rules = choice_rules base choice may.segments.rules may.source.0;
      rule = half_is.keeps.rule;
      live = λ k lt.
          let ready = count in
          let there : k < ready_count base object = omega (arith, lt, ready) in
          subst (λ (s : ℕ). Contains (live_blocks now) (segment_block s)) (sym (segment_stays k there))
          (more_live (live_blocks base) (live_blocks now) (segment_block segment) (segment_block (segment_of base object k)) (gains base object choice may page stands) (may.segments.live k there));
    };
    index_of = is;
    idle = (changes base object choice may page stands).idle;
    owned = λ lt some. record {
      live = subst (λ (s : ℕ). Contains (live_blocks now) (segment_block s)) (sym next_place) (gained_live (live_blocks base) (live_blocks now) (segment_block segment) (gains base object choice may page stands));
      apart = λ k lt_k same. let ready = count in may.apart k (omega (arith, lt_k, ready)) (sym (segment_stays k (omega (arith, lt_k, ready))) ∙ same ∙ next_place);
    };
  }

by_source : (base : List ℕ) (object : ℕ) (source : Source) → MayExtend base (record { object = object; source = source }) → (index : HeapIndex) → IsIndexOf (finished (source_parts base source) base) index
    → MayPlanExtension (finished (source_parts base source) base) index object
by_source base object (owned place) may index is =
    let next : place_in (next_pointer base object) ≡ place = ap place_in may.source.0 ∙ place_in-pointer place in record {
      segments = may.segments;
      index_of = is;
      idle = may.idle;
      owned = λ lt some. record {
        live = subst (λ (s : ℕ). Contains (live_blocks base) (segment_block s)) (sym next) may.source.1;
        apart = subst (IsNoSegment base object) (sym next) may.apart;
      };
    }
by_source base object (allocated choice) may index is =
    let (page, stands) = source_stands base object may.segments.rules (allocated choice) may.source in half_extends base object choice may page stands index is

pub half_way : (base : List ℕ) (e : Extension) → MayExtend base e → (index : HeapIndex) → IsIndexOf (finished (source_parts base e.source) base) index
    → MayPlanExtension (finished (source_parts base e.source) base) index e.object
half_way base e may index is = by_source base e.object e.source may index is

-- and its entries stay
pub half_entries : (base : List ℕ) (object : ℕ) (choice : Choice) → MayExtend base (record { object = object; source = allocated choice }) → entries (finished (choice_parts base choice) base) object ≡ entries base object
half_entries base object choice may =
    let (page, stands) = source_stands base object may.segments.rules (allocated choice) may.source in (half_is base object choice may page stands).keeps.entries
