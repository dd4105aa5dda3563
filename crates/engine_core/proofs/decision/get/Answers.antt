use Rattle.std.proofs.Common.{◌≡◌, ◌∙◌, ℕ, ℤ, true, false, [], ◌∷◌, get_or, None, Some, ap, sym, subst, rules}
use Rattle.mv_model.specs.declared.value.Value.{Value}
use Rattle.mv_model.specs.declared.value.Value.TheVariants.{Int}
use Rattle.mv_model.specs.declared.reply.Reply.TheVariants as reply
use Rattle.std.proofs.Common.{List}
use mir.Syntax.{w64}
use mir.Val.{SFits}
use Rattle.std.proofs.lemmas.Int.{to_z-of_z}
use Rattle.engine_core.specs.Decided.{IsDecided}
use Rattle.engine_core.specs.LogicalState.{integer_of, is_seen}
use Rattle.engine_core.specs.Served.{get_of}
use Rattle.engine_core.specs.Stage.{value_at}
use Rattle.engine_core.specs.declared.transactions.Transactions.{Transactions}
use Rattle.engine_core.proofs.Answered.{anyhow, stands, unseen-past}
use Rattle.engine_core.proofs.Readings.{get-seen, get-takes, get-unseen}
use Rattle.engine_core.proofs.decision.get.Goals as goal
use Rattle.engine_core.proofs.decision.get.Goals.{then-row-ge-STAGE_ROWS-via-then-row-ge-STAGE_ROWS, then-row-ge-STAGE_ROWS-via-else-row-ge-STAGE_ROWS+then-not-is_seen}

pub returns-then-row-ge-STAGE_ROWS-clause-decided : goal.returns-then-row-ge-STAGE_ROWS-clause-decided
returns-then-row-ge-STAGE_ROWS-clause-decided g c =
    let words = (g.M.Memory.device c.args.memory.now).cached in
    let unseen : is_seen words 0 c.args.own.snapshot c.args.row ≡ false = elim c.then-row-ge-STAGE_ROWS.branch [
      | then-row-ge-STAGE_ROWS-via-then-row-ge-STAGE_ROWS w ↦ unseen-past words 0 c.args.own.snapshot c.args.row w.if-row-ge-STAGE_ROWS.true
      | then-row-ge-STAGE_ROWS-via-else-row-ge-STAGE_ROWS+then-not-is_seen w ↦ sym w.is_seen.ensures ∙ w.if-not-is_seen.true
    ] in
    stands words _ (get_of c.args.row) reply.NoRow c.stand.result c.stand.ensures (get-unseen words c.args.begun c.args.own c.args.row c.requires unseen) tt tt

pub returns-clause-decided : goal.returns-clause-decided
returns-clause-decided g c =
    let words = (g.M.Memory.device c.args.memory.now).cached in
    let before : Transactions = record { begun = c.args.begun; running = Some c.args.own } in
    let seen : is_seen words 0 c.args.own.snapshot c.args.row ≡ true = sym c.is_seen.ensures ∙ c.if-not-is_seen.false in
    let word : c.load.result ≡ get_or words (value_at c.args.row) 0 = c.load.ensures ∙ ap (λ (k : ℕ). get_or words k 0) c.value.ensures in
    let fits : SFits w64 c.integer.result = search rules in
    let values : c.in_ok-values.values ≡ Int (integer_of (get_or words (value_at c.args.row) 0)) ∷ [] =
    (simp to_z-of_z at c.in_ok-values.ensures) ∙ ap (λ (n : ℤ). Int n ∷ []) (c.integer.ensures ∙ ap integer_of word) in
    stands words _ (get_of c.args.row) (reply.Values c.in_ok-values.values) c.stand-2.result (c.stand-2.ensures ∙ ap (λ (vs : List Value). record { reply = reply.Values c.in_ok-values.values; copy = reply.Values vs; plan = None; after = before; late = None }) c.in_ok-copy.ensures)
    (subst (λ (vs : List Value). IsDecided words before (get_of c.args.row) (reply.Values vs) [] before) (sym values)
    (get-seen words c.args.begun c.args.own c.args.row c.requires seen)) tt tt

pub returns-in_err-values-clause-memory : goal.returns-in_err-values-clause-memory
returns-in_err-values-clause-memory g c =
    let words = (g.M.Memory.device c.args.memory.now).cached in
    anyhow c.from_residual.result (get-takes words c.args.begun c.args.own c.args.row c.requires (sym c.is_seen.ensures ∙ c.if-not-is_seen.false))

pub returns-in_err-copy-clause-memory : goal.returns-in_err-copy-clause-memory
returns-in_err-copy-clause-memory g c =
    let words = (g.M.Memory.device c.args.memory.now).cached in
    anyhow c.from_residual-in_err-copy.result (get-takes words c.args.begun c.args.own c.args.row c.requires (sym c.is_seen.ensures ∙ c.if-not-is_seen.false))
