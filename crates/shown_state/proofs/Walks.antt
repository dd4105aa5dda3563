-- Walks along next words.
use Rattle.std.proofs.Common.{◌≡◌, zero, suc, [], ◌∷◌, get_or, refl, ◌∙◌, ap, arith}
use Rattle.image_layout.specs.Places.{place_in}
use Rattle.image_layout.specs.Trees.{leaves_from}
use Rattle.shown_state.specs.ImageLaws.{PointersNameTheirPlace, WalksAreWhole}
use Rattle.image_layout.specs.Records.{next_leaf_at}

pub pointers_name_their_place : PointersNameTheirPlace
pointers_name_their_place place = omega arith

pub walks_are_whole : WalksAreWhole
unfolding leaves_from
walks_are_whole words word [] zero is le = refl
walks_are_whole words zero [] (suc steps) is le = refl
walks_are_whole words (suc word) [] (suc steps) is le = absurd (omega arith)
walks_are_whole words word (leaf ∷ leaves) zero is le = absurd (omega arith)
walks_are_whole words zero (leaf ∷ leaves) (suc steps) (is, rest) le = absurd (omega arith)
walks_are_whole words (suc word) (leaf ∷ leaves) (suc steps) (is, rest) le =
    let named : place_in (suc word) ≡ leaf = ap place_in is ∙ pointers_name_their_place leaf in
    ap (λ at. at ∷ leaves_from words steps (get_or words (next_leaf_at at) 0)) named ∙ ap (λ more. leaf ∷ more) (walks_are_whole words (get_or words (next_leaf_at leaf) 0) leaves steps rest (omega arith))
