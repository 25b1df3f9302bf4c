use Rattle.std.proofs.Common.{◌∙◌, ◌++◌, refl}
use Rattle.mm_frames.specs.NodeHead.{node_head_bytes}
use Rattle.mm_frames.specs.Details.{details_bytes}
use Rattle.mm_frames.specs.declared.node_head.NodeHead.{NodeHead}
use Rattle.mm_nstable.proofs.Frames.{frame_is, frame_details, frame_name, frame_named, frame_used}
use Rattle.mm_nstable.proofs.nodes.node_frame.Goals as goal

pub returns-clause-is : goal.returns-clause-is
returns-clause-is c =
    let h : NodeHead = record { hash = c.hash.result; name = c.padded.result } in
    frame_is h c.args.details.now _ c.put_node_head.«new».bytes c.put_details.«new».bytes c.put_node_head.ensures c.put_details.ensures refl
    ∙ (λ i. node_head_bytes (record { hash = c.hash.ensures.is i; name = c.padded.ensures i }) ++ details_bytes c.args.details.now)

pub returns-clause-named : goal.returns-clause-named
returns-clause-named c =
    let h : NodeHead = record { hash = c.hash.result; name = c.padded.result } in
    frame_named h c.args.details.now _ c.put_node_head.«new».bytes c.put_details.«new».bytes c.put_node_head.ensures c.put_details.ensures c.args.name.now c.hash.ensures.name c.hash.ensures.is c.padded.ensures

pub returns-clause-name : goal.returns-clause-name
returns-clause-name c =
    let h : NodeHead = record { hash = c.hash.result; name = c.padded.result } in
    frame_name h c.args.details.now _ c.put_node_head.«new».bytes c.put_details.«new».bytes c.put_node_head.ensures c.put_details.ensures c.args.name.now c.hash.ensures.name c.padded.ensures

pub returns-clause-used : goal.returns-clause-used
returns-clause-used c =
    let h : NodeHead = record { hash = c.hash.result; name = c.padded.result } in
    frame_used h c.args.details.now _ c.put_node_head.«new».bytes c.put_details.«new».bytes c.put_node_head.ensures c.put_details.ensures c.args.name.now c.hash.ensures.is

pub returns-clause-details : goal.returns-clause-details
returns-clause-details c =
    let h : NodeHead = record { hash = c.hash.result; name = c.padded.result } in
    frame_details h c.args.details.now _ c.put_node_head.«new».bytes c.put_details.«new».bytes c.put_node_head.ensures c.put_details.ensures
