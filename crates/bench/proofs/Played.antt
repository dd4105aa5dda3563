-- Parts that are played whole on a device of which every word is durable.
use Rattle.std.proofs.Common.{◌≡◌, ℕ, ◌/◌, ◌<◌, false, eqb, [], ◌∷◌, length, refl, ◌∙◌, ap, arith}
use Rattle.std.proofs.lemmas.Bool.{eqb-true, ne_eqb, or_from}
use Rattle.pm_model.specs.declared.action.Action.TheVariants.{Flush, Fence}
use Rattle.pm_model.specs.Device.{Device, IsWhole, acted}
use Rattle.pm_model.specs.Plans.{IsPlan, store, one_store, plan_of}
use Rattle.heap_palloc.proofs.Settled.{whole_played}
use Rattle.bench.specs.Uses.{IsAtRest}

module _ (d : Device) (whole : IsWhole d) (rest : IsAtRest d) where
  -- one store
  pub store_played : (place value : ℕ) (e : Device) → place < 32768 → e ≡ acted 1 Fence (acted 1 (Flush (place / 8)) (acted 1 (store place value) d)) → IsAtRest e
  store_played place value e within is = record { clean = (whole_played 1 (one_store place value ∷ []) d whole rest.clean plan (plan_of (one_store place value ∷ [])) 3 e refl refl is).1 }
    where
      plan : IsPlan (length d.cached) (one_store place value ∷ [])
      plan = ((tt, omega (arith, within, whole.one_or_more), λ w hit. refl, tt), tt)

  -- two stores into the first lane

  pub lane_played : (dest block : ℕ) (e : Device) → dest ≡ 577 → block ≡ 578 → e ≡ acted 1 Fence (acted 1 (Flush (dest / 8)) (acted 1 (store block 1) (acted 1 (store dest 1) d))) → IsAtRest e
  lane_played dest block e dest_is block_is is = record {
    clean = (whole_played 1 ((store 577 1 ∷ store 578 1 ∷ []) ∷ []) d whole rest.clean plan (plan_of ((store 577 1 ∷ store 578 1 ∷ []) ∷ [])) 4 e refl refl
        (is
        ∙ ap (λ (x : ℕ). acted 1 Fence (acted 1 (Flush (x / 8)) (acted 1 (store block 1) (acted 1 (store x 1) d)))) dest_is
        ∙ ap (λ (x : ℕ). acted 1 Fence (acted 1 (Flush 72) (acted 1 (store x 1) (acted 1 (store 577 1) d)))) block_is)).1;
  }
    where
      plan : IsPlan (length d.cached) ((store 577 1 ∷ store 578 1 ∷ []) ∷ [])
      plan = (
        (
          tt,
          omega (arith, whole.one_or_more),
          λ w hit. let same = eqb-true w 577 hit in or_from (eqb w 578) false (ne_eqb w 578 (λ e. omega (arith, same, e))) refl,
          (tt, omega (arith, whole.one_or_more), λ w hit. refl, tt),
        ),
        tt,
      )
