-- The numbered rules of an image at rest, as far as they stand. They are tried in this order.
use Rattle.std.specs.Prelude.{◌≡◌, ℕ, List, [], ◌∷◌, ◌++◌, None, Some}
use Rattle.image_layout.specs.Checks.{Numbered, first_fault, numbered}
use Rattle.image_layout.specs.SoundRules.{idle_rule, split_log_rule, closed_rule, code_rule, spare_slot_rule, stamp_rule, given_back_rule, distinct_name_rule, latest_version_rule}
use Rattle.image_rules.specs.NumberedRules.{entry_rules}
use Rattle.img_check.specs.declared.error.CheckError.{CheckError}
use Rattle.img_check.specs.declared.error.CheckError.TheVariants.{Unsound, NoMemory as OutOfMemory}
use Rattle.image_rules.specs.BuiltOwners.{built_owner_rule, built_single_owner_rule, built_owned_rule}
use Rattle.image_rules.specs.BuiltTrees.{built_fingerprint_rule, built_order_rule}

-- nothing is half done
abbrev pub closing_rules : List Numbered
closing_rules = numbered 16 idle_rule ∷ numbered 17 split_log_rule ∷ numbered 18 closed_rule ∷ []

-- The rules that are tried before any for which memory is taken: 1 to 12 and 14 to 18.
abbrev pub rules_without_memory : List Numbered
rules_without_memory = entry_rules ++ closing_rules

-- the owner words of tables, arrays, leaves and transaction objects
abbrev pub owner_rules : List Numbered
owner_rules = numbered 19 built_owner_rule ∷ numbered 20 built_single_owner_rule ∷ numbered 21 built_owned_rule ∷ []

-- the pairs in the leaves of trees: the order of their keys and their fingerprints in columns of integers, and the codes
-- of all columns
abbrev pub pair_rules : List Numbered
pair_rules =
    numbered 22 built_order_rule ∷ numbered 23 built_fingerprint_rule ∷ numbered 24 code_rule ∷ []

-- dictionaries of texts have nothing behind their length
abbrev pub dictionary_rules : List Numbered
dictionary_rules = numbered 26 spare_slot_rule ∷ []

-- stamps, pages that were given back, names, and the version
abbrev pub content_rules : List Numbered
content_rules =
    numbered 27 stamp_rule ∷ numbered 29 given_back_rule ∷ numbered 30 distinct_name_rule
    ∷ numbered 31 latest_version_rule ∷ []

abbrev pub sound_rules : List Numbered
sound_rules = rules_without_memory ++ owner_rules ++ pair_rules ++ dictionary_rules ++ content_rules

-- why the words are refused: this is the first rule that they break, and the first place where they do; or memory ran
-- out, and they keep the rules that are tried without it
abbrev pub IsCauseOf : List ℕ → CheckError → Type 0
IsCauseOf words OutOfMemory = first_fault rules_without_memory words ≡ None
IsCauseOf words (Unsound rule place) = first_fault sound_rules words ≡ Some (record { rule = rule; place = place })
