use Rattle.std.proofs.Common.{◌≡◌, ℕ, ◌<◌, ◌+◌, arith, refl, ap, ◌∙◌, length, []}
use Rattle.std.proofs.lemmas.List.{get_or-set_same, get_or-set_other}
use Rattle.page_store.specs.Frames.{times, itself, one_if}
use Rattle.page_store.proofs.Whole.{whole-set, whole-push}
use Rattle.page_store.proofs.Owned.{times-push, one_if-same}
use Rattle.page_store.proofs.page_store.take_frame.Goals as goal

-- a free frame is one of the frames
pub index_mut-requires : goal.index_mut-requires
index_mut-requires c =
    let frame = c.in-Some.frame in
    let parts : times itself frame c.args.free.now.items ≡ one_if frame frame + times itself frame c.pop.new.self.items = ap (times itself frame) c.in-Some.ensures.items ∙ times-push itself frame c.pop.new.self.items frame in
    c.requires.free frame (omega (arith, parts, one_if-same frame frame refl))

pub returns-in-Some-clause-taken : goal.returns-in-Some-clause-taken
returns-in-Some-clause-taken c =
    let frame = c.in-Some.frame in
    let frames = c.args.frames.now.items in
    let free = c.args.free.now.items in
    let left = c.pop.new.self.items in
    let parts : (f : ℕ) → times itself f free ≡ one_if frame f + times itself f left = λ f. ap (times itself f) c.in-Some.ensures.items ∙ times-push itself f left frame in
    let below : frame < length frames = omega (arith, c.requires.free frame (omega (arith, parts frame, one_if-same frame frame refl)), c.args.frames.now.ok.0) in
    record {
      zeros = get_or-set_same frames frame c.blank_out.new.frame [] below ∙ c.blank_out.ensures.zeros;
      others = λ other ne. get_or-set_other frames frame other c.blank_out.new.frame [] ne;
      owner = λ f. omega (arith, parts f);
    }

pub returns-in-Some-clause-whole : goal.returns-in-Some-clause-whole
returns-in-Some-clause-whole c = λ whole. whole-set c.args.frames.now.items c.in-Some.frame c.blank_out.new.frame whole c.blank_out.ensures.whole

pub returns-in-None-clause-whole : goal.returns-in-None-clause-whole
returns-in-None-clause-whole c = λ whole. rw c.push_reserved.ensures.items (whole-push c.args.frames.now.items c.blank_frame.result whole c.blank_frame.ensures.whole)
