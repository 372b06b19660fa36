-- The fold of a client's frames, as a map from key and reference to meta.
use Rattle.std.specs.Prelude.{ℕ, List, [], ◌∷◌, if◌then◌else◌, Option, Some, None}
use Rattle.std.specs.Str.{bytes_eq}
use Rattle.serde_json.specs.Data.{Data}
use Rattle.presence_metas.specs.declared.tracked.TrackedMeta.{TrackedMeta}
use Rattle.presence_metas.specs.declared.presences.Diff.{Diff}
use Rattle.presence_metas.specs.declared.frame.Frame.{Frame}
use Rattle.presence_metas.specs.declared.frame.Frame.TheVariants as frame_is
use Rattle.presence_metas.specs.Listing.{Listing, at, is_named, applied}
pub use Rattle.presence_base.specs.Choices.{first_some}

-- the meta of a reference: of equal references the last
abbrev pub last_named : List TrackedMeta → List ℕ → Option Data
last_named [] r = None
last_named (t ∷ ts) r = first_some (last_named ts r) (if bytes_eq t.reference r then Some t.meta else None)

-- the meta of a key and reference
abbrev pub meta_at : Listing → List ℕ → List ℕ → Option Data
meta_at ls k r = last_named (at ls k) r

-- a diff puts its joins in, then takes its leaves out
abbrev pub folded : (List ℕ → List ℕ → Option Data) → Diff → List ℕ → List ℕ → Option Data
folded metas d k r = if is_named (at d.leaves k) r then None else first_some (meta_at d.joins k r) (metas k r)

-- a client's lists after a frame
abbrev pub after_frame : Listing → Frame → Listing
after_frame ls (frame_is.State state) = state
after_frame ls (frame_is.Diff d) = applied ls d

-- the same as maps: a state replaces, a diff is folded in
abbrev pub fold_frame : (List ℕ → List ℕ → Option Data) → Frame → List ℕ → List ℕ → Option Data
fold_frame metas (frame_is.State state) k r = meta_at state k r
fold_frame metas (frame_is.Diff d) k r = folded metas d k r
