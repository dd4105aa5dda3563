-- The law of a change: from its words to the images that a power cut leaves.
use Rattle.std.proofs.Common.{ℕ, List, subst, sym}
use Rattle.pm_model.specs.Changes.{Change, HoldsOnWords, Survives}
use Rattle.pm_model.proofs.PlanLaw.{plan_survives_parts, plan_ended_parts, plan_ends}

-- what a structure proves of its change on words, it has on a device
pub survives-from-words : (c : Change) → HoldsOnWords c → Survives c
survives-from-words c holds = record {
  on_words = holds;
  image = λ play left d image base cut.
      plan_survives_parts (c.shows base) (c.parts base) play cut.played left d image base cut.playing cut.left_by cut.back cut.parts_are (holds.cuts base cut.asked);
  rest = λ play d image base cut. subst (λ (l : List ℕ). c.ends base l)
      (sym (plan_ended_parts (c.parts base) play cut.played d image base cut.playing cut.left_by cut.back cut.parts_are)) (holds.end base cut.asked);
  clean = λ play d image base cut. (plan_ends play cut.played d cut.playing).clean;
}
