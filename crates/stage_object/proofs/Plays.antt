-- A whole transaction as one plan: it may be played on a device at rest, and so may what is left of it.
use Rattle.std.proofs.Common.{◌≡◌, ℕ, zero, suc, ◌<◌, true, List, [], ◌∷◌, ◌++◌, length, take, drop, refl, sym, ◌∙◌, ap, subst, append_assoc, arith}
use Rattle.std.proofs.lemmas.Grind.{flat_map-append}
use Rattle.pm_model.specs.declared.action.Action.{Action}
use Rattle.pm_model.specs.Device.{Device, acted}
use Rattle.pm_model.specs.Plans.{Part, part_actions, plan_of, IsPlan, run, MayPlay, at_rest}
use Rattle.pm_model.proofs.Alone.{may_play-plan}
use Rattle.txn_object.specs.declared.entry.Entry.{Entry}
use Rattle.txn_object.specs.Object.{begin_parts}
use Rattle.stage_object.specs.Object.{entry_part, retire_parts}
use Rattle.stage_object.specs.Shown.{HasObject}
use Rattle.stage_object.proofs.Retire.{retire_plan}

-- the rest of a plan may be played once its first actions were
may_play-drop : (session n : ℕ) (left : List Action) (d : Device) → MayPlay session left d → MayPlay session (drop n left) (run session (take n left) d)
may_play-drop session zero left d may = may
may_play-drop session (suc n) [] d may = tt
may_play-drop session (suc n) (action ∷ left) d may = may_play-drop session n left (acted session action d) may.1

pub may_play-rest : (session n : ℕ) (left rest : List Action) (d e : Device) → rest ≡ drop n left → e ≡ run session (take n left) d → MayPlay session left d → MayPlay session rest e
may_play-rest session n left rest d e rests runs may =
    subst (λ (l : List Action). MayPlay session l e) (sym rests) (subst (λ (x : Device). MayPlay session (drop n left) x) (sym runs) (may_play-drop session n left d may))

-- two parts between two lists of parts
joined : (l0 l1 l2 l3 l4 first : List Action) (before after : List Part) (p q : Part) → l0 ≡ [] → first ≡ plan_of before → l1 ≡ l0 ++ first → l2 ≡ l1 ++ part_actions p → l3 ≡ l2 ++ part_actions q → l4 ≡ l3 ++ plan_of after
    → l4 ≡ plan_of (before ++ p ∷ q ∷ after)
joined l0 l1 l2 l3 l4 first before after p q a b c d e f =
    f ∙ ap (λ (l : List Action). l ++ plan_of after) (e ∙ ap (λ (l : List Action). l ++ part_actions q) (d ∙ ap (λ (l : List Action). l ++ part_actions p) (c ∙ ap (λ (l : List Action). l ++ first) a ∙ b)))
    ∙ append_assoc (plan_of before ++ part_actions p) (part_actions q) (plan_of after)
    ∙ append_assoc (plan_of before) (part_actions p) (part_actions q ++ plan_of after)
    ∙ sym (flat_map-append part_actions before (p ∷ q ∷ after))

pub whole_may_play : (session object : ℕ) (one two : Entry) (l0 l1 l2 l3 l4 first : List Action) → object < 16 → l0 ≡ [] → first ≡ plan_of (begin_parts object) → l1 ≡ l0 ++ first
    → l2 ≡ l1 ++ part_actions (entry_part object 0 one) → l3 ≡ l2 ++ part_actions (entry_part object 1 two) → l4 ≡ l3 ++ plan_of (retire_parts object 2 true)
    → (words : List ℕ) → length words ≡ 32768 → MayPlay session l4 (at_rest words)
whole_may_play session object one two l0 l1 l2 l3 l4 first number a b c d e f words size =
    let parts = begin_parts object ++ entry_part object 0 one ∷ entry_part object 1 two ∷ retire_parts object 2 true in
    let has : HasObject words object = record { number = number; size = omega (arith, size) } in
    let plan : IsPlan (length words) parts = (
      (tt, omega (arith, number, size), λ w hit. refl, tt),
      ((tt, omega (arith, number, size), λ w hit. refl, tt), ((tt, omega (arith, number, size), λ w hit. refl, tt), retire_plan words object 2 true has (omega arith))),
    ) in
    subst (λ (l : List Action). MayPlay session l (at_rest words)) (sym (joined l0 l1 l2 l3 l4 first (begin_parts object) (retire_parts object 2 true) (entry_part object 0 one) (entry_part object 1 two) a b c d e f))
    (may_play-plan session parts words (at_rest words) plan (record { cached = refl; durable = refl; flushed = λ w. refl }))
