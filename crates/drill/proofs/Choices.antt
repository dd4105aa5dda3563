-- What holds of each statement that can be chosen.
use Rattle.std.proofs.Common.{◌≡◌, ℕ, ◌+◌, inl, inr}
use Rattle.std.specs.Prelude.{None, ◌==◌, nat_le}
use Rattle.std.proofs.lemmas.Bool.{cases_Bool}
use Rattle.mv_model.specs.declared.call.Call.TheVariants as call
use Rattle.drill.specs.Calls.{Drawn, chosen, delete_drawn, get_drawn, insert_drawn, number_column, plain, scan_drawn, table, update_drawn}

pub by-choice : (P : Drawn → Type 0) (number choice i : ℕ)
    → P (insert_drawn number i) → P (update_drawn number i) → P (delete_drawn number i) → P (get_drawn number i) → P (scan_drawn number i)
    → P (plain (call.Count table None) i) → P (plain (call.Sum table number_column None) i) → P (plain call.Abort i) → P (plain call.Commit i)
    → P (chosen number choice i)
by-choice P number choice i inserts updates deletes gets scans counts sums aborts commits =
    elim (cases_Bool (nat_le choice 5)) [
      | inl a ↦ rw a inserts
      | inr a ↦ rw a (elim (cases_Bool (nat_le choice 7)) [
        | inl b ↦ rw b updates
        | inr b ↦ rw b (elim (cases_Bool (choice == 8)) [
          | inl c ↦ rw c deletes
          | inr c ↦ rw c (elim (cases_Bool (nat_le choice 10)) [
            | inl d ↦ rw d gets
            | inr d ↦ rw d (elim (cases_Bool (choice == 11)) [
              | inl e ↦ rw e scans
              | inr e ↦ rw e (elim (cases_Bool (choice == 12)) [
                | inl f ↦ rw f counts
                | inr f ↦ rw f (elim (cases_Bool (choice == 13)) [
                  | inl g ↦ rw g sums
                  | inr g ↦ rw g (elim (cases_Bool (choice == 14)) [
                    | inl h ↦ rw h aborts
                    | inr h ↦ rw h commits
                  ])
                ])
              ])
            ])
          ])
        ])
      ])
    ]
