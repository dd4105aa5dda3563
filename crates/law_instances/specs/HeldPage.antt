-- An image that fits together, written out, in which a lane is about to allocate a page that is still free; so another
-- allocation may be planned on that page, though it mustn't be played.
use Rattle.std.specs.Prelude.{ℕ, List, ◌∷◌, ◌++◌, replicate}
use Rattle.image_layout.specs.Fresh.{magic_number}
use Rattle.image_layout.specs.Pointer.{pointer_word}
use Rattle.heap_palloc.specs.Choice.{Choice, on_new_page}
use Rattle.heap_palloc.specs.Law.{slot_by}

-- Lane 1 allocates the first word of page 4, into the pointer behind object 5's segments. The argument is the
-- descriptor of page 4.
unfoldable pub held_page : ℕ → List ℕ
held_page descriptor =
    (8 ∷ 8 ∷ 8 ∷ 8 ∷ descriptor ∷ replicate {A = ℕ} 507 0) ++ (magic_number ∷ 2 ∷ replicate {A = ℕ} 70 0)
    ++ (1 ∷ pointer_word 1347 ∷ pointer_word 2048 ∷ replicate {A = ℕ} 32181 0)

abbrev pub held_page_image : List ℕ
held_page_image = held_page 0

abbrev pub small_page_image : List ℕ
small_page_image = held_page 6

-- the first slot of that page, made a small one, through lane 0 into the pointer behind object 3's segments
abbrev pub on_held_page : Choice
on_held_page = on_new_page (slot_by 0 1219 4 4 0)
